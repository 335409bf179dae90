-- What a numbered batch asks for.
use Rattle.std.proofs.Common.{◌≡◌, inl, inr, ℕ, List, [], Option, Some, None, sym, ap, subst, ◌∙◌}
use Rattle.feature_model.specs.Data.{EditData}
use Rattle.http_serve.specs.Reply.{ReplyView}
use Rattle.serde_json.specs.Data.{Data}
use Rattle.edit_json.specs.Batches.{IsBatch}
use Rattle.edit_json.proofs.BatchLaws.{batch-one}
use Rattle.tile_service.specs.Machine.{Happening}
use Rattle.tile_service.specs.declared.status.Status.{Status}
use Rattle.map_replies.specs.Bodies.{IsJson, SaysChanges}
use Rattle.map_replies.specs.Meanings.{MeansNumbered, MeansNumberedBatch}
use Rattle.two_machines.specs.Standby.{IsEditOf, SaysEditOf}
use Rattle.two_machines.specs.Machines.{AreGiven}

pub says : (first : ℕ) (edits : List EditData) (number : ℕ) (cs : EditData) (body : List ℕ) (taken : Data) → IsJson body taken → IsBatch taken cs
    → IsEditOf first edits number cs → SaysEditOf first edits number body
says first edits number cs body taken json batch is = (cs, record { value = taken; json = json; batch = batch }, is)

-- a body has one value
pub one_value : (body : List ℕ) (d e : Data) → IsJson body d → IsJson body e → e ≡ d
one_value body d e is too = some_is (sym too.1 ∙ is.1)
  where
    value_in : Option Data → Data
    value_in None = d
    value_in (Some other) = other

    some_is : Some e ≡ Some d → e ≡ d
    some_is same = ap value_in same

one_said : (body : List ℕ) (cs others : EditData) → SaysChanges body cs → SaysChanges body others → cs ≡ others
one_said body cs others is too =
    batch-one is.value cs others is.batch
    (subst (λ (d : Data). IsBatch d others) (one_value body is.value too.value is.json too.json) too.batch)

pub none_given : (first : ℕ) (edits : List EditData) (last : ℕ) (happenings : List Happening) → happenings ≡ [] → AreGiven first edits last happenings
none_given first edits last happenings none = subst (AreGiven first edits last) (sym none) tt

numbered : (failed : Type 0) (first : ℕ) (edits : List EditData) (old : Status) (query : List ℕ) (number : ℕ) (cs : EditData) (reply : ReplyView)
    (happenings : List Happening) → IsEditOf first edits number cs → MeansNumbered failed old query number cs reply happenings
    → AreGiven first edits old.edits happenings
numbered failed first edits old query number cs reply happenings is (inl (next, inl (agreed, asked))) =
    subst (AreGiven first edits old.edits) (sym asked.3) (subst (λ (n : ℕ). IsEditOf first edits n cs) next is, tt)
numbered failed first edits old query number cs reply happenings is (inl (next, inr other)) = none_given first edits old.edits happenings other.1.1
numbered failed first edits old query number cs reply happenings is (inr other) = none_given first edits old.edits happenings other.2

pub given : (failed : Type 0) (first : ℕ) (edits : List EditData) (old : Status) (query : List ℕ) (number : ℕ) (body : List ℕ) (reply : ReplyView)
    (happenings : List Happening) → SaysEditOf first edits number body → MeansNumberedBatch failed old query number body reply happenings
    → AreGiven first edits old.edits happenings
given failed first edits old query number body reply happenings said (inl (cs, changes, means)) =
    numbered failed first edits old query number cs reply happenings
    (subst (IsEditOf first edits number) (one_said body said.0 cs said.1 changes) said.2) means
given failed first edits old query number body reply happenings said (inr (inl refused)) = none_given first edits old.edits happenings refused.2.1
given failed first edits old query number body reply happenings said (inr (inr refused)) = none_given first edits old.edits happenings refused.1
