-- A publication from its beginning to its end, step by step.
use Rattle.std.proofs.Common.{◌≡◌, ◌⊎◌, inl, inr, ⊎_elim, ℕ, zero, suc, ◌<◌, ◌-◌, Bool, true, false}
use Rattle.std.proofs.Common.{List, [], ◌∷◌, ◌++◌, Option, Some, None, Result, Ok, Err, is_ok, refl, sym, ◌∙◌, ap, subst, arith}
use Rattle.std.specs.Prelude.{option_map, IsSome, All}
use Rattle.std.proofs.lemmas.Bool.{false≢true}
use Rattle.std.proofs.lemmas.List.{map-append}
use Rattle.std.proofs.lemmas.List.Elements.{All-nil, All-cons, All-append}
use Rattle.generations.specs.Areas.{journal_sectors}
use Rattle.feature_store.specs.Store.{FeatureMap}
use Rattle.tile_service.specs.Machine.{Publication, ServiceState, Happening, begin, step, Begins, GoesOn, HasPublication, AnswersBegin, AnswersStep}
use Rattle.tile_service.specs.Runs.{begin_and_steps, IsUnfinished}
use Rattle.tile_service.specs.Service.{PublicationView, ServiceView, Known, state_of, going_of, CountsDevice}
use Rattle.tile_service.specs.declared.fault.ServiceFault.{ServiceFault}
use Rattle.tile_service.specs.declared.fault.ServiceFault.TheVariants.{Broken, Busy, Idle, NumbersSpent, Memory}
use Rattle.tile_service.specs.declared.fault.ServiceFault.TheVariants.{TooManyTiles, AreaFull, Device}

-- ---- how much is left

abbrev is_going : Option Publication → Bool
is_going None = false
is_going (Some p) = true

not_both : (publication : Option Publication) (p : Publication) → publication ≡ None → publication ≡ Some p → ⊥
not_both publication p none some = false≢true (sym (ap is_going none) ∙ ap is_going some)

abbrev left_in : Option Publication → ℕ
left_in None = 0
left_in (Some p) = p.left

-- So much of a publication is left, or none is under way.
abbrev pub Stands : ServiceState → ℕ → Type 0
Stands s zero = s.publication ≡ None
Stands s (suc more) = (under_way : HasPublication s) × (under_way.publication.left ≡ suc more)

pub begun_stands : (old new : ServiceState) (told : ℕ) → Begins old told new → Stands new told
begun_stands old new zero goes = absurd (omega (arith, goes.told_is))
begun_stands old new (suc more) goes = (
  record {
    unbroken = ap (λ (s : ServiceState). s.broken) goes.begun ∙ goes.unbroken;
    publication = record {
      archive = record { bytes = goes.archive; features = old.features };
      last = old.last;
      places = journal_sectors old.size - old.free;
      left = suc more;
    };
    is = ap (λ (s : ServiceState). s.publication) goes.begun;
  },
  refl,
)

pub on_stands : (old new : ServiceState) (under_way : HasPublication old) (told : ℕ) → GoesOn old under_way.publication told new → Stands new told
on_stands old new under_way zero (inl w) = absurd (omega (arith, w.0, w.1))
on_stands old new under_way (suc more) (inl w) = (
  record {
    unbroken = ap (λ (s : ServiceState). s.broken) w.2 ∙ under_way.unbroken;
    publication = record under_way.publication { left = suc more };
    is = ap (λ (s : ServiceState). s.publication) w.2;
  },
  refl,
)
on_stands old new under_way zero (inr w) = ap (λ (s : ServiceState). s.publication) w.2
on_stands old new under_way (suc more) (inr w) = absurd (omega (arith, w.1))

-- it gets less
pub falls : (old new : ServiceState) (rest : ℕ) (under_way : HasPublication old) (told : ℕ) → Stands old rest
    → GoesOn old under_way.publication told new → told < rest
falls old new zero under_way told stands goes = absurd (not_both old.publication under_way.publication stands under_way.is)
falls old new (suc more) under_way told stands (inl w) =
    let same : stands.0.publication.left ≡ under_way.publication.left = ap left_in (sym stands.0.is ∙ under_way.is) in
    omega (arith, same, stands.1, w.0, w.1)
falls old new (suc more) under_way told stands (inr w) = omega (arith, w.1)

-- ---- refusals

clash : (b : Bool) → b ≡ false → b ≡ true → ⊥
clash b not is = false≢true (sym not ∙ is)

-- a step of one that is under way fails for the disk alone
pub only_device : (old new : ServiceState) (rest : ℕ) (fault : ServiceFault) → 0 < rest → Stands old rest → AnswersStep old (Err fault) new → fault ≡ Device
only_device old new zero fault lt stands goes = absurd (omega (arith, lt))
only_device old new (suc more) Broken lt stands goes = absurd (clash old.broken stands.0.unbroken goes.0)
only_device old new (suc more) Idle lt stands goes = absurd (not_both old.publication stands.0.publication goes.1 stands.0.is)
only_device old new (suc more) Device lt stands goes = refl
only_device old new (suc more) fault lt stands goes = absurd goes.1

-- and then it is cancelled
pub device_gives_up : (old new : ServiceState) (fault : ServiceFault) → fault ≡ Device → AnswersStep old (Err fault) new → new.publication ≡ None
device_gives_up old new fault is goes =
    ap (λ (s : ServiceState). s.publication) (subst (λ (x : ServiceFault). AnswersStep old (Err x) new) is goes).2

some_there : {A : Type 0} (o : Option A) → IsSome o → (a : A) × (o ≡ Some a)
some_there None is = absurd (false≢true is)
some_there (Some a) is = (a, refl)

-- a step where there is one fails for the disk alone
step_device : (old new : ServiceState) (p : Publication) (fault : ServiceFault) → old.broken ≡ false → old.publication ≡ Some p
    → AnswersStep old (Err fault) new → fault ≡ Device
step_device old new p Broken unbroken is goes = absurd (clash old.broken unbroken goes.0)
step_device old new p Idle unbroken is goes = absurd (not_both old.publication p goes.1 is)
step_device old new p Device unbroken is goes = refl
step_device old new p fault unbroken is goes = absurd goes.1

-- where none begins, there was one, or none is under way, or the service was broken
pub begin_gives_up : (old new : ServiceState) (fault : ServiceFault) → AnswersBegin old (Err fault) new
    → (fault ≡ Broken) ⊎ (fault ≡ Busy) ⊎ (old.publication ≡ None)
begin_gives_up old new Broken goes = inl refl
begin_gives_up old new Busy goes = inr (inl refl)
begin_gives_up old new NumbersSpent goes = inr (inr goes.1.0)
begin_gives_up old new Memory goes = inr (inr goes.1.none)
begin_gives_up old new TooManyTiles goes = inr (inr goes.1.0.none)
begin_gives_up old new (AreaFull need free) goes = inr (inr goes.1.0.none)
begin_gives_up old new fault goes = absurd goes.1

-- a beginning counts no fault of the disk
pub begin_counts : (old new : ServiceState) (fault : ServiceFault) (before after : ℕ) → AnswersBegin old (Err fault) new → after ≡ before
    → CountsDevice fault before after
begin_counts old new fault before after goes same = inr ((λ device. (subst (λ (x : ServiceFault). AnswersBegin old (Err x) new) device goes).1), same)

-- the view has none where the machine has none
pub none_seen : (m : FeatureMap) (publication : Option PublicationView) → option_map (going_of m) publication ≡ None → publication ≡ None
none_seen m None is = refl
none_seen m (Some p) is = absurd (not_both (Some (going_of m p)) (going_of m p) is refl)

pub begin_given_up : {D : Type 0} (known known' : Known) (old new : ServiceView D) (fault : ServiceFault)
    → AnswersBegin (state_of known old) (Err fault) (state_of known' new) → new ≡ old → (fault ≡ Broken) ⊎ (fault ≡ Busy) ⊎ (new.publication ≡ None)
begin_given_up {D} known known' old new fault goes same = ⊎_elim
    (λ (broken : fault ≡ Broken). inl broken)
    (λ (rest : (fault ≡ Busy) ⊎ ((state_of known old).publication ≡ None)). ⊎_elim
    (λ (busy : fault ≡ Busy). inr (inl busy))
    (λ (none : (state_of known old).publication ≡ None). inr (inr
    (ap (λ (s : ServiceView D). s.publication) same ∙ none_seen known.publishing old.publication none)))
    rest)
    (begin_gives_up (state_of known old) (state_of known' new) fault goes)

-- a step where there is one fails for the disk alone, and then it is cancelled
pub step_given_up : {D : Type 0} (known known' : Known) (old new : ServiceView D) (fault : ServiceFault) → old.broken ≡ false
    → IsSome old.publication → AnswersStep (state_of known old) (Err fault) (state_of known' new) → (fault ≡ Device) × (new.publication ≡ None)
step_given_up {D} known known' old new fault unbroken some goes =
    let there = some_there old.publication some in
    let is = step_device (state_of known old) (state_of known' new) (going_of known.publishing there.0) fault unbroken
    (ap (option_map (going_of known.publishing)) there.1) goes in
    (is, none_seen known'.publishing new.publication (device_gives_up (state_of known old) (state_of known' new) fault is goes))

-- after a beginning there is one
pub begun_there : {D : Type 0} (known known' : Known) (old new : ServiceView D) (told : ℕ)
    → AnswersBegin (state_of known old) (Ok told) (state_of known' new) → (new.broken ≡ false) × IsSome new.publication
begun_there {D} known known' old new told goes = (
  ap (λ (s : ServiceState). s.broken) goes.begun ∙ goes.unbroken,
  there_seen known'.publishing new.publication (ap (λ (s : ServiceState). is_going s.publication) goes.begun),
)
  where
    there_seen : (m : FeatureMap) (publication : Option PublicationView) → is_going (option_map (going_of m) publication) ≡ true → IsSome publication
    there_seen m None is = absurd (false≢true is)
    there_seen m (Some p) is = refl

-- one step more
steps_on : (before : List (Result ℕ ServiceFault)) (last next : Result ℕ ServiceFault)
    → begin_and_steps ((before ++ last ∷ []) ++ next ∷ []) ≡ begin_and_steps (before ++ last ∷ []) ++ step next ∷ []
steps_on [] last next = refl
steps_on (first ∷ before) last next = ap (λ (l : List Happening). begin first ∷ l) (map-append step (before ++ last ∷ []) (next ∷ []))

pub steps_more : (P : List Happening → Type 0) (before : List (Result ℕ ServiceFault)) (last next : Result ℕ ServiceFault)
    → P (begin_and_steps (before ++ last ∷ []) ++ step next ∷ []) → P (begin_and_steps ((before ++ last ∷ []) ++ next ∷ []))
steps_more P before last next holds = subst P (sym (steps_on before last next)) holds

-- one more that leaves something
pub one_more_unfinished : (before : List (Result ℕ ServiceFault)) (left : ℕ) → All IsUnfinished before → 0 < left
    → All IsUnfinished (before ++ Ok left ∷ [])
one_more_unfinished before left all some =
    All-append IsUnfinished before (Ok left ∷ []) all (All-cons IsUnfinished (Ok left) [] some (All-nil IsUnfinished))

-- ---- the archive that is shown

abbrev is_begin : Happening → Bool
is_begin (begin outcome) = true
is_begin happening = false

-- a beginning is no step,
pub begin_no_step : (outcome last : Result ℕ ServiceFault) → begin outcome ≡ step last → ⊥
begin_no_step outcome last is = false≢true (sym (ap is_begin is))

abbrev number_in : Result ℕ ServiceFault → ℕ
number_in (Ok number) = number
number_in (Err fault) = 0

-- where something is left it isn't done,
pub left_not_done : (told : ℕ) → (told ≡ 0 → ⊥) → ◌≡◌ {A = Result ℕ ServiceFault} (Ok told) (Ok 0) → ⊥
left_not_done told some is = some (ap number_in is)

-- nor where it is refused
pub refused_not_done : (fault : ServiceFault) → ◌≡◌ {A = Result ℕ ServiceFault} (Err fault) (Ok 0) → ⊥
refused_not_done fault is = false≢true (ap is_ok is)
