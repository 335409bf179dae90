-- Runs as entries: one run more.
use Rattle.std.proofs.Common.{◌≡◌, ℕ, ◌+◌, ◌<◌, ◌≤◌, List, [], ◌∷◌, ◌++◌, length, map, take, get_or, max, ◌⊎◌, inl, inr}
use Rattle.std.proofs.Common.{Option, Some, None, refl, sym, ap, subst, ◌∙◌, append_assoc, arith}
use Rattle.std.specs.List.{AllByRecursion, Contains, concat}
use Rattle.std.proofs.lemmas.List.{length-append, append-nil, map_push, take_more}
use Rattle.std.proofs.lemmas.List.Elements.{Contains-append_left, Contains-push}
use Rattle.pm_directory.specs.Counts.{span_of}
use Rattle.pm_directory.specs.declared.entry.DirectoryEntry.{DirectoryEntry}
use Rattle.pm_build.specs.declared.run.Run.{Run}
use Rattle.pm_build.specs.Runs.{TileRun}
use Rattle.pm_build.specs.Joined.{run_view, run_views}
use Rattle.pm_build.specs.Clustered.{end_of, IsClustered}
use Rattle.pm_build.specs.Different.{offset_from, with_content, with_contents}
use Rattle.pm_build.specs.Offsets.{spans_from, IsPlaced, EachPlaced, ArePlacedRuns}
use Rattle.pm_build.proofs.Different.{push_kept, push_same, concat_push, different_push, with_there, with_new, with_has, with_more, with_none, all_kept}
use Rattle.pm_build.proofs.Counting.{stands}

-- ---- facts of each element

pub each_weaker : {X : Type 0} (P Q : X → Type 0) → ((x : X) → P x → Q x) → (xs : List X) → AllByRecursion P xs → AllByRecursion Q xs
each_weaker P Q f [] h = tt
each_weaker P Q f (x ∷ xs) h = (f x h.0, each_weaker P Q f xs h.1)

each_push : {X : Type 0} (P : X → Type 0) (xs : List X) (y : X) → AllByRecursion P xs → P y → AllByRecursion P (xs ++ y ∷ [])
each_push P [] y h p = (p, tt)
each_push P (x ∷ xs) y h p = (h.0, each_push P xs y h.1 p)

-- ---- what one run more changes

placed_grown : (cs : List (List ℕ)) (d : List ℕ) (rs : List TileRun) (es : List DirectoryEntry) → EachPlaced cs rs es → EachPlaced (cs ++ d ∷ []) rs es
placed_grown cs d [] [] h = tt
placed_grown cs d [] (e ∷ es) h = h
placed_grown cs d (r ∷ rs) [] h = h
placed_grown cs d (r ∷ rs) (e ∷ es) h =
    let p = h.0 in
    let there = push_kept 0 cs d r.content e.offset p.offset_is in
    (record { id_is = p.id_is; run_is = p.run_is; length_is = p.length_is; offset_is = there; offset_fits = p.offset_fits }, placed_grown cs d rs es h.1)

placed_push : (cs : List (List ℕ)) (rs : List TileRun) (es : List DirectoryEntry) (r : TileRun) (e : DirectoryEntry) → EachPlaced cs rs es → IsPlaced cs r e
    → EachPlaced cs (rs ++ r ∷ []) (es ++ e ∷ [])
placed_push cs [] [] r e h p = (p, tt)
placed_push cs [] (x ∷ es) r e h p = absurd h
placed_push cs (x ∷ rs) [] r e h p = absurd h
placed_push cs (x ∷ rs) (y ∷ es) r e h p = (h.0, placed_push cs rs es r e h.1 p)

spans_push : (from : ℕ) (cs : List (List ℕ)) (d : List ℕ) → spans_from from (cs ++ d ∷ []) ≡ spans_from from cs ++ (from + length (concat cs), length d) ∷ []
spans_push from [] d = let e : from ≡ from + 0 = omega arith in ap (λ (n : ℕ). let p : ℕ × ℕ = (n, length d) in p ∷ []) e
spans_push from (c ∷ cs) d =
    let e : from + length c + length (concat cs) ≡ from + length (c ++ concat cs) = omega (arith, length-append c (concat cs)) in
    ap (λ (x : List (ℕ × ℕ)). let p : ℕ × ℕ = (from, length c) in p ∷ x)
    (spans_push (from + length c) cs d ∙ ap (λ (n : ℕ). let p : ℕ × ℕ = (n, length d) in spans_from (from + length c) cs ++ p ∷ []) e)

-- what stays of a run's content and of an entry's span among more
used_more : (rs : List TileRun) (r : TileRun) (cs : List (List ℕ)) → AllByRecursion (λ c. Contains (map (λ x. x.content) rs) c) cs
    → AllByRecursion (λ c. Contains (map (λ x. x.content) (rs ++ r ∷ [])) c) cs
used_more rs r cs h =
    each_weaker (λ c. Contains (map (λ x. x.content) rs) c) (λ c. Contains (map (λ x. x.content) (rs ++ r ∷ [])) c)
    (λ c k. subst (λ (x : List (List ℕ)). Contains x c) (sym (map_push (λ (x : TileRun). x.content) rs r))
    (Contains-append_left (map (λ x. x.content) rs) (r.content ∷ []) c k)) cs h

used_here : (rs : List TileRun) (r : TileRun) → Contains (map (λ x. x.content) (rs ++ r ∷ [])) r.content
used_here rs r =
    subst (λ (x : List (List ℕ)). Contains x r.content) (sym (map_push (λ (x : TileRun). x.content) rs r)) (Contains-push (map (λ x. x.content) rs) r.content)

reached_more : (es : List DirectoryEntry) (e : DirectoryEntry) (ps : List (ℕ × ℕ)) → AllByRecursion (λ p. Contains (map span_of es) p) ps
    → AllByRecursion (λ p. Contains (map span_of (es ++ e ∷ [])) p) ps
reached_more es e ps h =
    each_weaker (λ p. Contains (map span_of es) p) (λ p. Contains (map span_of (es ++ e ∷ [])) p)
    (λ p k. subst (λ (x : List (ℕ × ℕ)). Contains x p) (sym (map_push span_of es e)) (Contains-append_left (map span_of es) (span_of e ∷ []) p k)) ps h

reached_here : (es : List DirectoryEntry) (e : DirectoryEntry) (p : ℕ × ℕ) → span_of e ≡ p → Contains (map span_of (es ++ e ∷ [])) p
reached_here es e p is =
    subst (λ (q : ℕ × ℕ). Contains (map span_of (es ++ e ∷ [])) q) is
    (subst (λ (x : List (ℕ × ℕ)). Contains x (span_of e)) (sym (map_push span_of es e)) (Contains-push (map span_of es) (span_of e)))

-- ---- the order of the contents

end_push : (end : ℕ) (es : List DirectoryEntry) (e : DirectoryEntry) → end_of end (es ++ e ∷ []) ≡ max (end_of end es) (e.offset + e.length)
end_push end [] e = refl
end_push end (x ∷ es) e = end_push (max end (x.offset + x.length)) es e

clustered_push : (end : ℕ) (es : List DirectoryEntry) (e : DirectoryEntry) → IsClustered end es
    → (e.offset ≡ end_of end es) ⊎ (e.offset + e.length ≤ end_of end es) → IsClustered end (es ++ e ∷ [])
clustered_push end [] e h p = (p, tt)
clustered_push end (x ∷ es) e h p = (h.0, clustered_push (max end (x.offset + x.length)) es e h.1 p)

within : (cs : List (List ℕ)) (r : TileRun) (e : DirectoryEntry) → IsPlaced cs r e → e.offset + e.length ≤ length (concat cs)
within cs r e p =
    let s = stands 0 cs r.content e.offset p.offset_is in
    let begins : 0 + length s.front ≡ e.offset = s.begins in
    let long = ap length s.bytes in
    let size : e.length ≡ length r.content = p.length_is in
    omega (arith, long, length-append s.front (r.content ++ s.rest), length-append r.content s.rest)

-- ---- one run more

more_there : (rs : List TileRun) (r : TileRun) (es : List DirectoryEntry) (e : DirectoryEntry) (cs : List (List ℕ)) → ArePlacedRuns rs es cs → IsPlaced cs r e
    → ArePlacedRuns (rs ++ r ∷ []) (es ++ e ∷ []) cs
more_there rs r es e cs h p =
    let inside = within cs r e p in
    let ends : end_of 0 es ≡ length (concat cs) = h.ends in
    record {
      each = placed_push cs rs es r e h.each p;
      different = h.different;
      used = used_more rs r cs h.used;
      clustered = clustered_push 0 es e h.clustered (inr (omega arith));
      ends = (let grown = end_push 0 es e in omega arith);
      reached = reached_more es e (spans_from 0 cs) h.reached;
    }

more_new : (rs : List TileRun) (r : TileRun) (es : List DirectoryEntry) (e : DirectoryEntry) (cs : List (List ℕ)) → ArePlacedRuns rs es cs
    → offset_from 0 cs r.content ≡ None → IsPlaced (cs ++ r.content ∷ []) r e → ArePlacedRuns (rs ++ r ∷ []) (es ++ e ∷ []) (cs ++ r.content ∷ [])
more_new rs r es e cs h none p =
    let offset : Some e.offset ≡ Some (0 + length (concat cs)) = sym p.offset_is ∙ push_same 0 cs r.content none in
    let offset_is : e.offset ≡ 0 + length (concat cs) = cc in
    let length_is : e.length ≡ length r.content = p.length_is in
    let ends : end_of 0 es ≡ length (concat cs) = h.ends in
    let span : span_of e ≡ (0 + length (concat cs), length r.content) = cc in
    record {
      each = placed_push (cs ++ r.content ∷ []) rs es r e (placed_grown cs r.content rs es h.each) p;
      different = different_push 0 cs r.content h.different none;
      used = each_push (λ c. Contains (map (λ x. x.content) (rs ++ r ∷ [])) c) cs r.content (used_more rs r cs h.used) (used_here rs r);
      clustered = clustered_push 0 es e h.clustered (inl (omega arith));
      ends = (let grown = end_push 0 es e in let more = concat_push cs r.content in omega arith);
      reached = subst (λ (ps : List (ℕ × ℕ)). AllByRecursion (λ p. Contains (map span_of (es ++ e ∷ [])) p) ps) (sym (spans_push 0 cs r.content))
          (each_push (λ p. Contains (map span_of (es ++ e ∷ [])) p) (spans_from 0 cs) (0 + length (concat cs), length r.content)
          (reached_more es e (spans_from 0 cs) h.reached) (reached_here es e _ span));
    }

more_placed : (rs : List TileRun) (r : TileRun) (es : List DirectoryEntry) (e : DirectoryEntry) (old new : List (List ℕ)) → ArePlacedRuns rs es old
    → new ≡ with_content old r.content → IsPlaced new r e → ArePlacedRuns (rs ++ r ∷ []) (es ++ e ∷ []) new
more_placed rs r es e old new h grown p = by (offset_from 0 old r.content) refl
  where
    by : (o : Option ℕ) → offset_from 0 old r.content ≡ o → ArePlacedRuns (rs ++ r ∷ []) (es ++ e ∷ []) new
    by None none =
        let is : new ≡ old ++ r.content ∷ [] = grown ∙ with_new old r.content none in
        subst (λ (cs : List (List ℕ)). ArePlacedRuns (rs ++ r ∷ []) (es ++ e ∷ []) cs) (sym is)
        (more_new rs r es e old h none (subst (λ (cs : List (List ℕ)). IsPlaced cs r e) is p))
    by (Some k) there =
        let is : new ≡ old = grown ∙ sym (with_there old r.content k there) in
        subst (λ (cs : List (List ℕ)). ArePlacedRuns (rs ++ r ∷ []) (es ++ e ∷ []) cs) (sym is)
        (more_there rs r es e old h (subst (λ (cs : List (List ℕ)). IsPlaced cs r e) is p))

-- ---- all runs

-- a run's entry is placed as soon as its content is among the contents
earlier : (old rest cs : List (List ℕ)) (r : TileRun) (e : DirectoryEntry) → cs ≡ with_contents (with_content old r.content) rest → IsPlaced cs r e
    → IsPlaced (with_content old r.content) r e
earlier old rest cs r e is p =
    let has = with_has old r.content in
    let same : Some has.0 ≡ Some e.offset =
    sym (all_kept (with_content old r.content) rest r.content has.0 has.1) ∙ ap (λ (x : List (List ℕ)). offset_from 0 x r.content) (sym is) ∙ p.offset_is in
    record { id_is = p.id_is; run_is = p.run_is; length_is = p.length_is; offset_is = has.1 ∙ same; offset_fits = p.offset_fits }

placed_from : (before rest : List TileRun) (bes res : List DirectoryEntry) (old cs : List (List ℕ)) → ArePlacedRuns before bes old → EachPlaced cs rest res
    → cs ≡ with_contents old (map (λ r. r.content) rest) → ArePlacedRuns (before ++ rest) (bes ++ res) cs
placed_from before [] bes [] old cs h each is =
    subst (λ (x : List TileRun). ArePlacedRuns x (bes ++ []) cs) (sym (append-nil before))
    (subst (λ (x : List DirectoryEntry). ArePlacedRuns before x cs) (sym (append-nil bes))
    (subst (λ (x : List (List ℕ)). ArePlacedRuns before bes x) (sym (is ∙ with_none old)) h))
placed_from before [] bes (e ∷ es) old cs h each is = absurd each
placed_from before (r ∷ rs) bes [] old cs h each is = absurd each
placed_from before (r ∷ rs) bes (e ∷ es) old cs h each is =
    let new = with_content old r.content in
    let left = map (λ x. x.content) rs in
    let stays : cs ≡ with_contents new left = is ∙ with_more old r.content left in
    let more = more_placed before r bes e old new h refl (earlier old left cs r e stays each.0) in
    let on = placed_from (before ++ r ∷ []) rs (bes ++ e ∷ []) es new cs more each.1 stays in
    subst (λ (x : List TileRun). ArePlacedRuns x (bes ++ e ∷ es) cs) (append_assoc before (r ∷ []) rs)
    (subst (λ (x : List DirectoryEntry). ArePlacedRuns ((before ++ r ∷ []) ++ rs) x cs) (append_assoc bes (e ∷ []) es) on)

none_placed : ArePlacedRuns [] [] []
none_placed = record { each = tt; different = tt; used = tt; clustered = tt; ends = refl; reached = tt }

pub placed_all : (rs : List TileRun) (es : List DirectoryEntry) (cs : List (List ℕ)) → EachPlaced cs rs es → cs ≡ with_contents [] (map (λ r. r.content) rs)
    → ArePlacedRuns rs es cs
placed_all rs es cs each is = placed_from [] rs [] es [] cs none_placed each is

-- ---- the loop over the runs

pub each_more : (cs : List (List ℕ)) (runs : List Run) (i : ℕ) (d : Run) (es more : List DirectoryEntry) (e : DirectoryEntry) → i < length runs
    → more ≡ es ++ e ∷ [] → EachPlaced cs (run_views cs (take i runs)) es → IsPlaced cs (run_view cs (get_or runs i d)) e
    → EachPlaced cs (run_views cs (take (i + 1) runs)) more
each_more cs runs i d es more e lt pushed h p =
    let run = get_or runs i d in
    let views : run_views cs (take (i + 1) runs) ≡ run_views cs (take i runs) ++ run_view cs run ∷ [] =
    ap (λ (x : List Run). run_views cs x) (take_more runs i d lt) ∙ map_push (run_view cs) (take i runs) run in
    subst (λ (x : List TileRun). EachPlaced cs x more) (sym views)
    (subst (λ (x : List DirectoryEntry). EachPlaced cs (run_views cs (take i runs) ++ run_view cs run ∷ []) x) (sym pushed)
    (placed_push cs (run_views cs (take i runs)) es (run_view cs run) e h p))
