-- The route that a path matches is one of the rows.
use Rattle.std.proofs.Common.{ℕ, zero, suc, ◌-◌, List, [], ◌∷◌, Bool, true, false, cond, Option, Some, None, length}
use Rattle.std.specs.Prelude.{ltb, ◌==◌}
use Rattle.matchit.specs.Rows.{RowsOf, param_token, catch_all_token}
use Rattle.matchit.specs.Seek.{own, step, or_else, with_suffix, longest_suffix, segment, same_text, has_slash, param_step, seek}

module _ {K : Type 0} (P : K → Type 0) where
  -- the fact holds of the key of each row
  abbrev pub EachKey : RowsOf K → Type 0
  EachKey [] = Unit {0}
  EachKey ((t, key) ∷ rest) = P key × EachKey rest

  -- it holds of the answer, where there is one
  abbrev pub IfKey : Option K → Type 0
  IfKey None = Unit {0}
  IfKey (Some key) = P key

  own-key : (rs : RowsOf K) → EachKey rs → IfKey (own rs)
  own-key [] each = tt
  own-key (([], key) ∷ rest) each = each.0
  own-key ((x ∷ t, key) ∷ rest) each = own-key rest each.1

  more-key : (b : Bool) (t : List ℕ) (key : K) (some none : RowsOf K) → P key → EachKey some → EachKey none → EachKey (cond b ((t, key) ∷ some) none)
  more-key true t key some none is each other = (is, each)
  more-key false t key some none is each other = other

  step-key : (b : ℕ) (rs : RowsOf K) → EachKey rs → EachKey (step b rs)
  step-key b [] each = tt
  step-key b (([], key) ∷ rest) each = step-key b rest each.1
  step-key b ((x ∷ t, key) ∷ rest) each =
      more-key (x == b) t key (step b rest) (step b rest) each.0 (step-key b rest each.1) (step-key b rest each.1)

  suffix-key : (suffix : List ℕ) (rs : RowsOf K) → EachKey rs → EachKey (with_suffix suffix rs)
  suffix-key suffix [] each = tt
  suffix-key suffix ((t, key) ∷ rest) each =
      more-key (same_text (segment t) suffix) t key (with_suffix suffix rest) (with_suffix suffix rest) each.0
      (suffix-key suffix rest each.1) (suffix-key suffix rest each.1)

  either-key : (b : Bool) (p q : ℕ × RowsOf K) → EachKey p.1 → EachKey q.1 → EachKey (cond b p q).1
  either-key true p q left right = left
  either-key false p q left right = right

  param-key : (rs : RowsOf K) (path : List ℕ) → EachKey rs → EachKey (param_step rs path).1
  unfolding param_step
  param-key rs path each =
      either-key (ltb 0 (length (longest_suffix (segment path) rs))) _ _ (suffix-key (longest_suffix (segment path) rs) rs each)
      (either-key (has_slash path) (0, []) (length path, rs) tt each)

  or_else-key : (a b : Option K) → IfKey a → IfKey b → IfKey (or_else a b)
  or_else-key None b first second = second
  or_else-key (Some key) b first second = first

  pub seek-key : (path : List ℕ) (skip : ℕ) (rs : RowsOf K) → EachKey rs → IfKey (seek skip rs path)
  unfolding seek
  seek-key [] skip rs each = own-key rs each
  seek-key (b ∷ path) (suc skip) rs each = seek-key path skip rs each
  seek-key (b ∷ path) zero rs each =
      or_else-key (seek 0 (step b rs) path) _ (seek-key path 0 (step b rs) (step-key b rs each))
      (or_else-key _ _
      (seek-key path ((param_step (step param_token rs) (b ∷ path)).0 - 1) (param_step (step param_token rs) (b ∷ path)).1
      (param-key (step param_token rs) (b ∷ path) (step-key param_token rs each)))
      (own-key (step catch_all_token rs) (step-key catch_all_token rs each)))
