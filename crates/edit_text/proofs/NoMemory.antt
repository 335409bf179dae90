-- Reading itself never runs out of memory.
use Rattle.std.proofs.Common.{◌≢◌, ℕ, zero, suc, ◌==◌, List, [], ◌++◌, ◌∷◌, length, take, Ok, Err}
use Rattle.std.specs.Prelude.{nat_lt}
use Rattle.reader.specs.Reading.{repeated}
use Rattle.reader.proofs.Steps.{then_never, not_both}
use Rattle.feature_model.specs.declared.limits.TheConstants.{MIN_RING, MIN_LINE, MAX_EDIT_BYTES}
use Rattle.edit_text.specs.declared.fault.TextFault.TheVariants.{Cut, Bad, Memory}
use Rattle.edit_text.specs.Reading.{Part, next_at, many_at, line_at, lines_at, polygons_at, geometry_behind, geometry_at, tag_at, tags_at}
use Rattle.edit_text.specs.Reading.{zooms_at, feature_at, put_at, change_behind, change_at, cut_as_bad, decode_change_at}
use Rattle.edit_text.proofs.Faults.{as_no_memory, if_no_memory, then_no_memory, cond_no_memory, bad_no_memory, byte_no_memory, name_no_memory}
use Rattle.edit_text.proofs.Faults.{tag_no_memory, next_number_no_memory}
use Rattle.edit_text.proofs.PointLists.{line_no_memory, count_no_memory}

many_no_memory : {A : Type 0} (read : List A → List ℕ → Part A) → ((done : List A) (bytes : List ℕ) → read done bytes ≢ Err Memory)
    → (count : ℕ) (done : List A) (bytes : List ℕ) → many_at read count done bytes ≢ Err Memory
unfolding repeated
many_no_memory read never zero done bytes is = not_both (done, bytes) Memory is
many_no_memory read never (suc count) done bytes is =
    then_never Memory (next_at read (done, bytes)) (repeated (next_at read) count)
    (then_no_memory _ _ (never done bytes) (λ x rest. not_both (done ++ x ∷ [], rest) Memory))
    (λ x. many_no_memory read never count x.0 x.1) is

lines_no_memory : (least : ℕ) (bytes : List ℕ) → lines_at least bytes ≢ Err Memory
unfolding lines_at
lines_no_memory least bytes =
    then_no_memory _ _ (count_no_memory 1 bytes) (λ count rest. many_no_memory (λ _. line_at least) (λ done bs. line_no_memory least bs) count [] rest)

polygons_no_memory : (bytes : List ℕ) → polygons_at bytes ≢ Err Memory
unfolding polygons_at
polygons_no_memory bytes =
    then_no_memory _ _ (count_no_memory 1 bytes)
    (λ count rest. many_no_memory (λ _. lines_at MIN_RING) (λ done bs. lines_no_memory MIN_RING bs) count [] rest)

shape_no_memory : (kind : ℕ) (bytes : List ℕ) → geometry_behind kind bytes ≢ Err Memory
unfolding geometry_behind
shape_no_memory kind bytes =
    cond_no_memory (kind == 1) _ _ (as_no_memory _ _ (line_no_memory 1 bytes))
    (cond_no_memory (kind == 2) _ _ (as_no_memory _ _ (lines_no_memory MIN_LINE bytes))
    (cond_no_memory (kind == 3) _ _ (as_no_memory _ _ (polygons_no_memory bytes)) bad_no_memory))

geometry_no_memory : (bytes : List ℕ) → geometry_at bytes ≢ Err Memory
unfolding geometry_at
geometry_no_memory bytes = then_no_memory _ _ (byte_no_memory bytes) shape_no_memory

tags_no_memory : (bytes : List ℕ) → tags_at bytes ≢ Err Memory
unfolding tags_at
tags_no_memory bytes =
    then_no_memory _ _ (if_no_memory _ _ (byte_no_memory bytes)) (λ count rest. many_no_memory tag_at tag_no_memory count [] rest)

zooms_no_memory : (bytes : List ℕ) → zooms_at bytes ≢ Err Memory
unfolding zooms_at
zooms_no_memory bytes =
    then_no_memory _ _ (if_no_memory _ _ (byte_no_memory bytes)) (λ first rest. as_no_memory _ _ (if_no_memory _ _ (byte_no_memory rest)))

feature_no_memory : (bytes : List ℕ) → feature_at bytes ≢ Err Memory
unfolding feature_at
feature_no_memory bytes =
    then_no_memory _ _ (name_no_memory bytes) (λ layer behind_layer.
    then_no_memory _ _ (zooms_no_memory behind_layer) (λ zooms behind_zooms.
    then_no_memory _ _ (geometry_no_memory behind_zooms) (λ geometry behind_geometry. as_no_memory _ _ (tags_no_memory behind_geometry))))

put_no_memory : (bytes : List ℕ) → put_at [] bytes ≢ Err Memory
unfolding put_at
put_no_memory bytes = then_no_memory _ _ (next_number_no_memory [] bytes) (λ id rest. as_no_memory _ _ (feature_no_memory rest))

kind_no_memory : (kind : ℕ) (bytes : List ℕ) → change_behind [] kind bytes ≢ Err Memory
unfolding change_behind
kind_no_memory kind bytes =
    cond_no_memory (kind == 1) _ _ (put_no_memory bytes)
    (cond_no_memory (kind == 2) _ _ (as_no_memory _ _ (next_number_no_memory [] bytes)) bad_no_memory)

change_no_memory : (bytes : List ℕ) → change_at [] bytes ≢ Err Memory
unfolding change_at
change_no_memory bytes = then_no_memory _ _ (byte_no_memory bytes) kind_no_memory

bad_for_cut : {A : Type 0} (part : Part A) → part ≢ Err Memory → cut_as_bad part ≢ Err Memory
bad_for_cut (Ok x) never = never
bad_for_cut (Err Cut) never = bad_no_memory
bad_for_cut (Err Bad) never = never
bad_for_cut (Err Memory) never = never

-- the change at the start is read, or cut, or bad
pub decode_no_memory : (bytes : List ℕ) → decode_change_at bytes ≢ Err Memory
unfolding decode_change_at
decode_no_memory bytes =
    cond_no_memory (nat_lt (length bytes) MAX_EDIT_BYTES) _ _ (change_no_memory bytes)
    (bad_for_cut (change_at [] (take MAX_EDIT_BYTES bytes)) (change_no_memory (take MAX_EDIT_BYTES bytes)))
