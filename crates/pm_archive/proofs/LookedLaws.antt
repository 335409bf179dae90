-- What is looked up is what the entries list.
use Rattle.std.proofs.Common.{◌≡◌, ℕ, zero, suc, ◌+◌, ◌-◌, ◌<◌, ◌≤◌, Bool, true, false, cond, eqb, ltb, leb, List, [], ◌∷◌, ◌++◌, length, Option, Some, None}
use Rattle.std.proofs.Common.{Ok, inl, inr, refl, sym, ap, ◌∙◌, subst, arith}
use Rattle.std.specs.Prelude.{◌&&◌}
use Rattle.std.specs.List.{AllByRecursion, slice_get}
use Rattle.std.proofs.lemmas.Bool.{cases_lt, ne_eqb, eq-eqb, lt-ltb, le-ltb, le-leb, lt-leb}
use Rattle.pm_header.specs.declared.header.Header.{Header}
use Rattle.pm_directory.specs.declared.entry.DirectoryEntry.{DirectoryEntry}
use Rattle.pm_directory.specs.Directory.{ids_behind, AscendFrom}
use Rattle.pm_directory.specs.Lookup.{up_to}
use Rattle.pm_directory.proofs.DirectoryLaws.{directory_only}
use Rattle.pm_archive.specs.Entries.{bound_of, EachLists, LiesIn, ListsTile, IsLeaf, Lists, entry_of, entry_bytes}
use Rattle.pm_archive.specs.Reading.{directory_of_entry}
use Rattle.pm_archive.specs.Archive.{content_of_entry, content_of}
use Rattle.pm_archive.specs.Looked.{last_up_to, where_leads, leading_of, leading_at, reached_at, content_at}

-- ---- the bounds of the tiles' ids

-- the ids of the tiles are at least this one
abbrev AreFrom : ℕ → List DirectoryEntry → Type 0
AreFrom from tiles = AllByRecursion (λ t. from ≤ t.id) tiles

-- and below this one
abbrev AreBelow : ℕ → List DirectoryEntry → Type 0
AreBelow bound tiles = AllByRecursion (λ t. t.id + t.run ≤ bound) tiles

all_weaken : {X : Type 0} (P Q : X → Type 0) (xs : List X) → ((x : X) → P x → Q x) → AllByRecursion P xs → AllByRecursion Q xs
all_weaken P Q [] on h = tt
all_weaken P Q (x ∷ xs) on h = (on x h.0, all_weaken P Q xs on h.1)

all_append : {X : Type 0} (P : X → Type 0) (xs ys : List X) → AllByRecursion P xs → AllByRecursion P ys → AllByRecursion P (xs ++ ys)
all_append P [] ys h g = g
all_append P (x ∷ xs) ys h g = (h.0, all_append P xs ys h.1 g)

abbrev Leading : Type 1
Leading = DirectoryEntry → ℕ → List DirectoryEntry → Type 0

-- what an entry leads to has no id below its own
abbrev GoesFrom : Leading → Type 0
GoesFrom Leads = (e : DirectoryEntry) (bound : ℕ) (tiles : List DirectoryEntry) → Leads e bound tiles → AreFrom e.id tiles

-- nor one from the bound on, if the entry has none
abbrev GoesBelow : Leading → Type 0
GoesBelow Leads = (e : DirectoryEntry) (bound : ℕ) (tiles : List DirectoryEntry) → Leads e bound tiles → ids_behind e ≤ bound → AreBelow bound tiles

each_from : (Leads : Leading) → GoesFrom Leads → (from bound : ℕ) (es tiles : List DirectoryEntry) → AllByRecursion (λ e. from ≤ e.id) es
    → EachLists Leads bound es tiles → AreFrom from tiles
each_from Leads goes from bound [] tiles past h = rw h tt
each_from Leads goes from bound (e ∷ es) tiles past h =
    let front : AreFrom from h.0 = all_weaken (λ t. e.id ≤ t.id) (λ t. from ≤ t.id) h.0 (λ t low. omega (arith, low, past.0))
    (goes e (bound_of bound es) h.0 h.3) in
    subst (AreFrom from) (sym h.2) (all_append (λ t. from ≤ t.id) h.0 h.1 front (each_from Leads goes from bound es h.1 past.1 h.4))

-- the id of the next entry, or the directory's bound
bound_behind : (bound : ℕ) (e : DirectoryEntry) (es : List DirectoryEntry) → AscendFrom (ids_behind e) es → AllByRecursion (λ t. ids_behind t ≤ bound) (e ∷ es)
    → (ids_behind e ≤ bound_of bound es) × (bound_of bound es ≤ bound)
bound_behind bound e [] rise ends = (ends.0, omega arith)
bound_behind bound e (n ∷ es) rise ends = (rise.0, omega (arith, ends.1.0))

each_below : (Leads : Leading) → GoesBelow Leads → (from bound : ℕ) (es tiles : List DirectoryEntry) → AscendFrom from es
    → AllByRecursion (λ e. ids_behind e ≤ bound) es → EachLists Leads bound es tiles → AreBelow bound tiles
each_below Leads goes from bound [] tiles rise ends h = rw h tt
each_below Leads goes from bound (e ∷ es) tiles rise ends h =
    let next = bound_behind bound e es rise.1 ends in
    let front : AreBelow bound h.0 = all_weaken (λ t. t.id + t.run ≤ bound_of bound es) (λ t. t.id + t.run ≤ bound) h.0 (λ t low. omega (arith, low, next.1))
    (goes e (bound_of bound es) h.0 h.3 next.0) in
    subst (AreBelow bound) (sym h.2) (all_append (λ t. t.id + t.run ≤ bound) h.0 h.1 front
    (each_below Leads goes (ids_behind e) bound es h.1 rise.1 ends.1 h.4))

tile_from : (h : Header) (e : DirectoryEntry) (tiles : List DirectoryEntry) → ListsTile h e tiles → AreFrom e.id tiles
tile_from h e tiles t = subst (AreFrom e.id) (sym t.itself) (omega arith, tt)

tile_below : (h : Header) (e : DirectoryEntry) (bound : ℕ) (tiles : List DirectoryEntry) → ListsTile h e tiles → ids_behind e ≤ bound → AreBelow bound tiles
tile_below h e bound tiles t ends = let some = t.tile in subst (AreBelow bound) (sym t.itself) (omega arith, tt)

pub lists_from : (bytes : List ℕ) (h : Header) (more : ℕ) → GoesFrom (Lists bytes h more)
lists_from bytes h zero e bound tiles l = tile_from h e tiles l
lists_from bytes h (suc more) e bound tiles l =
    elim l [
      | inl t ↦ tile_from h e tiles t
      | inr d ↦ each_from (Lists bytes h more) (lists_from bytes h more) e.id bound d.0 tiles
          (all_weaken (λ x. (e.id ≤ x.id) × (ids_behind x ≤ bound)) (λ x. e.id ≤ x.id) d.0 (λ x p. p.0) d.1.between) d.2
    ]

pub lists_below : (bytes : List ℕ) (h : Header) (more : ℕ) → GoesBelow (Lists bytes h more)
lists_below bytes h zero e bound tiles l ends = tile_below h e bound tiles l ends
lists_below bytes h (suc more) e bound tiles l ends =
    elim l [
      | inl t ↦ tile_below h e bound tiles t ends
      | inr d ↦ each_below (Lists bytes h more) (lists_below bytes h more) 0 bound d.0 tiles d.1.directory.ascending
          (all_weaken (λ x. (e.id ≤ x.id) × (ids_behind x ≤ bound)) (λ x. ids_behind x ≤ bound) d.0 (λ x p. p.1) d.1.between) d.2
    ]

-- ---- the tile that has an id

miss_above : (id : ℕ) (tiles : List DirectoryEntry) (from : ℕ) → id < from → AreFrom from tiles → entry_of tiles id ≡ None
miss_above id [] from lt h = refl
miss_above id (t ∷ ts) from lt h =
    let low : leb t.id id ≡ false = lt-leb t.id id (omega (arith, h.0)) in
    rw low (miss_above id ts from lt h.1)

passed : (id : ℕ) (t : DirectoryEntry) (x y : Option DirectoryEntry) → t.id + t.run ≤ id → cond (leb t.id id && ltb id (t.id + t.run)) x y ≡ y
passed id t x y h =
    let low : leb t.id id ≡ true = le-leb t.id id (omega arith) in
    let high : ltb id (t.id + t.run) ≡ false = le-ltb id (t.id + t.run) h in
    rw (low, high) refl

entry_behind : (id bound : ℕ) (front rest : List DirectoryEntry) → bound ≤ id → AreBelow bound front → entry_of (front ++ rest) id ≡ entry_of rest id
entry_behind id bound [] rest le h = refl
entry_behind id bound (t ∷ ts) rest le h = passed id t (Some t) (entry_of (ts ++ rest) id) (omega (arith, h.0)) ∙ entry_behind id bound ts rest le h.1

entry_before : (id from : ℕ) (front rest : List DirectoryEntry) → id < from → AreFrom from rest → entry_of (front ++ rest) id ≡ entry_of front id
entry_before id from [] rest lt h = miss_above id rest from lt h
entry_before id from (t ∷ ts) rest lt h =
    ap (λ (r : Option DirectoryEntry). cond (leb t.id id && ltb id (t.id + t.run)) (Some t) r) (entry_before id from ts rest lt h)

-- ---- the last entry up to an id

abbrev last_entry : List DirectoryEntry → Option DirectoryEntry
last_entry es = slice_get es (length es - 1)

ids_from : (from to : ℕ) (es : List DirectoryEntry) → to ≤ from → AscendFrom from es → AllByRecursion (λ e. to ≤ e.id) es
ids_from from to [] le h = tt
ids_from from to (e ∷ es) le h = (omega (arith, h.0), ids_from (ids_behind e) to es (omega (arith, h.0)) h.1)

none_up_to : (id : ℕ) (es : List DirectoryEntry) → AllByRecursion (λ e. suc id ≤ e.id) es → up_to id es ≡ []
none_up_to id [] h = refl
none_up_to id (e ∷ es) h =
    let low : leb e.id id ≡ false = lt-leb e.id id (omega (arith, h.0)) in
    rw low (none_up_to id es h.1)

one_up_to : (id : ℕ) (e : DirectoryEntry) (es : List DirectoryEntry) → e.id ≤ id → up_to id (e ∷ es) ≡ e ∷ up_to id es
one_up_to id e es le = let low : leb e.id id ≡ true = le-leb e.id id le in rw low refl

last_behind : (e n : DirectoryEntry) (es : List DirectoryEntry) → last_entry (e ∷ n ∷ es) ≡ last_entry (n ∷ es)
last_behind e n es =
    let k : length (e ∷ n ∷ es) - 1 ≡ suc (length (n ∷ es) - 1) = omega arith in
    rw k refl

-- ---- the entry of a directory that leads to an id

-- the tile of the id is below the last entry up to it
abbrev Below : Leading → ℕ → List DirectoryEntry → Option DirectoryEntry → Type 0
Below Leads id tiles None = entry_of tiles id ≡ None
Below Leads id tiles (Some e) = (bound : ℕ) × (front : List DirectoryEntry) × (e.id ≤ id) × Leads e bound front × (entry_of tiles id ≡ entry_of front id)

below_same : (Leads : Leading) (id : ℕ) (tiles others : List DirectoryEntry) (o : Option DirectoryEntry) → entry_of tiles id ≡ entry_of others id
    → Below Leads id others o → Below Leads id tiles o
below_same Leads id tiles others None same b = same ∙ b
below_same Leads id tiles others (Some e) same b = (b.0, b.1, b.2, b.3, same ∙ b.4)

last_here : (id : ℕ) (e : DirectoryEntry) (es : List DirectoryEntry) → e.id ≤ id → AllByRecursion (λ x. suc id ≤ x.id) es → last_up_to id (e ∷ es) ≡ Some e
last_here id e es le past = ap last_entry (one_up_to id e es le ∙ ap (λ (r : List DirectoryEntry). e ∷ r) (none_up_to id es past))

last_next : (id : ℕ) (e n : DirectoryEntry) (es : List DirectoryEntry) → e.id ≤ id → n.id ≤ id → last_up_to id (e ∷ n ∷ es) ≡ last_up_to id (n ∷ es)
last_next id e n es le next =
    ap last_entry (one_up_to id e (n ∷ es) le ∙ ap (λ (r : List DirectoryEntry). e ∷ r) (one_up_to id n es next))
    ∙ last_behind e n (up_to id es)
    ∙ ap last_entry (sym (one_up_to id n es next))

-- no entry after the first is up to the id
below_first : (Leads : Leading) → GoesFrom Leads → (id bound : ℕ) (e : DirectoryEntry) (es tiles : List DirectoryEntry) → e.id ≤ id
    → AllByRecursion (λ x. suc id ≤ x.id) es → EachLists Leads bound (e ∷ es) tiles → Below Leads id tiles (last_up_to id (e ∷ es))
below_first Leads goes id bound e es tiles le past h =
    let rest : AreFrom (suc id) h.1 = each_from Leads goes (suc id) bound es h.1 past h.4 in
    let same : entry_of tiles id ≡ entry_of h.0 id = ap (λ (r : List DirectoryEntry). entry_of r id) h.2
    ∙ entry_before id (suc id) h.0 h.1 (omega arith) rest in
    subst (Below Leads id tiles) (sym (last_here id e es le past)) (bound_of bound es, h.0, le, h.3, same)

-- no entry at all
below_none : (Leads : Leading) → GoesFrom Leads → (id bound : ℕ) (es tiles : List DirectoryEntry) → AllByRecursion (λ x. suc id ≤ x.id) es
    → EachLists Leads bound es tiles → Below Leads id tiles (last_up_to id es)
below_none Leads goes id bound es tiles past h =
    let none : last_up_to id es ≡ None = ap last_entry (none_up_to id es past) in
    let miss : Below Leads id tiles None = miss_above id tiles (suc id) (omega arith) (each_from Leads goes (suc id) bound es tiles past h) in
    subst (Below Leads id tiles) (sym none) miss

below_last : (Leads : Leading) → GoesFrom Leads → GoesBelow Leads → (id from bound : ℕ) (es tiles : List DirectoryEntry) → AscendFrom from es
    → EachLists Leads bound es tiles → Below Leads id tiles (last_up_to id es)
below_last Leads goes ends id from bound [] tiles rise h = below_none Leads goes id bound [] tiles tt h
below_last Leads goes ends id from bound (e ∷ []) tiles rise h =
    elim (cases_lt id e.id) [
      | inl lt ↦ below_none Leads goes id bound (e ∷ []) tiles (omega arith, tt) h
      | inr le ↦ below_first Leads goes id bound e [] tiles le tt h
    ]
below_last Leads goes ends id from bound (e ∷ n ∷ es) tiles rise h =
    elim (cases_lt id n.id) [
      | inr next ↦
          let le : e.id ≤ id = omega (arith, rise.1.0) in
          let behind = below_last Leads goes ends id (ids_behind e) bound (n ∷ es) h.1 rise.1 h.4 in
          let same : entry_of tiles id ≡ entry_of h.1 id = ap (λ (r : List DirectoryEntry). entry_of r id) h.2
          ∙ entry_behind id n.id h.0 h.1 next (ends e n.id h.0 h.3 rise.1.0) in
          subst (Below Leads id tiles) (sym (last_next id e n es le next)) (below_same Leads id tiles h.1 (last_up_to id (n ∷ es)) same behind)
      | inl lt ↦
          let past : AllByRecursion (λ x. suc id ≤ x.id) (n ∷ es) = (omega arith, ids_from (ids_behind n) (suc id) es (omega arith) rise.1.1) in
          elim (cases_lt id e.id) [
            | inl before ↦ below_none Leads goes id bound (e ∷ n ∷ es) tiles (omega arith, past) h
            | inr le ↦ below_first Leads goes id bound e (n ∷ es) tiles le past h
          ]
    ]

-- ---- the way to a tile entry

reached_none : (bytes : List ℕ) (h : Header) (id more : ℕ) → reached_at bytes h id more None ≡ Ok None
unfolding reached_at
reached_none bytes h id zero = refl
reached_none bytes h id (suc more) = refl

reached_tile : (bytes : List ℕ) (h : Header) (id more : ℕ) (e : DirectoryEntry) → 0 < e.run → reached_at bytes h id more (Some e) ≡ Ok (Some e)
unfolding reached_at
reached_tile bytes h id zero e some = rw (lt-ltb 0 e.run some) refl
reached_tile bytes h id (suc more) e some = rw (lt-ltb 0 e.run some) refl

reached_either : (bytes : List ℕ) (h : Header) (id more : ℕ) (e : DirectoryEntry) (b : Bool) → 0 < e.run
    → reached_at bytes h id more (cond b (Some e) None) ≡ Ok (cond b (Some e) None)
reached_either bytes h id more e true some = reached_tile bytes h id more e some
reached_either bytes h id more e false some = reached_none bytes h id more

reached_itself : (bytes : List ℕ) (h : Header) (id more : ℕ) (e : DirectoryEntry) (front : List DirectoryEntry) → ListsTile h e front → e.id ≤ id
    → reached_at bytes h id more (where_leads id (Some e)) ≡ Ok (entry_of front id)
reached_itself bytes h id more e front t le =
    let some = t.tile in
    let tile : eqb e.run 0 ≡ false = ne_eqb e.run 0 (omega arith) in
    let low : leb e.id id ≡ true = le-leb e.id id le in
    let leads : where_leads id (Some e) ≡ cond (ltb id (e.id + e.run)) (Some e) None = rw tile refl in
    let has : entry_of front id ≡ cond (ltb id (e.id + e.run)) (Some e) None = ap (λ (r : List DirectoryEntry). entry_of r id) t.itself ∙ rw low refl in
    rw (leads, has) (reached_either bytes h id more e (ltb id (e.id + e.run)) some)

leaf_read : (bytes : List ℕ) (h : Header) (e : DirectoryEntry) (bound : ℕ) (es : List DirectoryEntry) → IsLeaf bytes h e bound es
    → directory_of_entry bytes h e ≡ Ok es
unfolding directory_of_entry
leaf_read bytes h e bound es leaf =
    let lies : leb (e.offset + e.length) h.leaves.length ≡ true = le-leb (e.offset + e.length) h.leaves.length leaf.inside in
    rw (lies, directory_only (entry_bytes h.leaves e bytes) es leaf.directory) refl

reached_leaf : (bytes : List ℕ) (h : Header) (id more : ℕ) (e : DirectoryEntry) (bound : ℕ) (es : List DirectoryEntry) → IsLeaf bytes h e bound es
    → reached_at bytes h id (suc more) (where_leads id (Some e)) ≡ reached_at bytes h id more (leading_of id es)
unfolding reached_at leading_at
reached_leaf bytes h id more e bound es leaf =
    let names : e.run ≡ 0 = leaf.leaf in
    let none : ltb 0 e.run ≡ false = le-ltb 0 e.run (omega arith) in
    let same : eqb e.run 0 ≡ true = eq-eqb e.run 0 names in
    rw (same, none, leaf_read bytes h e bound es leaf) refl

-- what is reached from an entry below which the id's tile is
abbrev Reaches : List ℕ → Header → ℕ → ℕ → Type 0
Reaches bytes h id more = (from bound : ℕ) (es tiles : List DirectoryEntry) → AscendFrom from es → EachLists (Lists bytes h more) bound es tiles
    → reached_at bytes h id more (leading_of id es) ≡ Ok (entry_of tiles id)

from_last : (bytes : List ℕ) (h : Header) (id : ℕ) (tiles : List DirectoryEntry) (o : Option DirectoryEntry) → Below (Lists bytes h zero) id tiles o
    → reached_at bytes h id zero (where_leads id o) ≡ Ok (entry_of tiles id)
from_last bytes h id tiles None b = rw b (reached_none bytes h id zero)
from_last bytes h id tiles (Some e) b = rw b.4 (reached_itself bytes h id zero e b.1 b.3 b.2)

from_more : (bytes : List ℕ) (h : Header) (id more : ℕ) → Reaches bytes h id more → (tiles : List DirectoryEntry) (o : Option DirectoryEntry)
    → Below (Lists bytes h (suc more)) id tiles o → reached_at bytes h id (suc more) (where_leads id o) ≡ Ok (entry_of tiles id)
from_more bytes h id more deeper tiles None b = rw b (reached_none bytes h id (suc more))
from_more bytes h id more deeper tiles (Some e) b =
    elim b.3 [
      | inl t ↦ rw b.4 (reached_itself bytes h id (suc more) e b.1 t b.2)
      | inr d ↦ rw b.4 (reached_leaf bytes h id more e b.0 d.0 d.1 ∙ deeper 0 b.0 d.0 b.1 d.1.directory.ascending d.2)
    ]

-- what is reached from a directory is the entry of the id among the tile entries that it lists
pub reaches : (bytes : List ℕ) (h : Header) (id more : ℕ) → Reaches bytes h id more
unfolding leading_of
reaches bytes h id zero from bound es tiles rise l =
    from_last bytes h id tiles (last_up_to id es) (below_last (Lists bytes h zero) (lists_from bytes h zero)
    (lists_below bytes h zero) id from bound es tiles rise l)
reaches bytes h id (suc more) from bound es tiles rise l =
    from_more bytes h id more (reaches bytes h id more) tiles (last_up_to id es)
    (below_last (Lists bytes h (suc more)) (lists_from bytes h (suc more)) (lists_below bytes h (suc more)) id from bound es tiles rise l)

-- ---- its content

pub each_lie : (h : Header) (Leads : Leading)
    → ((e : DirectoryEntry) (bound : ℕ) (tiles : List DirectoryEntry) → Leads e bound tiles → AllByRecursion (LiesIn h.tiles) tiles)
    → (bound : ℕ) (es tiles : List DirectoryEntry) → EachLists Leads bound es tiles → AllByRecursion (LiesIn h.tiles) tiles
each_lie h Leads lie bound [] tiles l = rw l tt
each_lie h Leads lie bound (e ∷ es) tiles l =
    subst (AllByRecursion (LiesIn h.tiles)) (sym l.2)
    (all_append (LiesIn h.tiles) l.0 l.1 (lie e (bound_of bound es) l.0 l.3) (each_lie h Leads lie bound es l.1 l.4))

tile_lies : (h : Header) (e : DirectoryEntry) (tiles : List DirectoryEntry) → ListsTile h e tiles → AllByRecursion (LiesIn h.tiles) tiles
tile_lies h e tiles t = subst (AllByRecursion (LiesIn h.tiles)) (sym t.itself) (t.inside, tt)

pub lists_lie : (bytes : List ℕ) (h : Header) (more : ℕ) (e : DirectoryEntry) (bound : ℕ) (tiles : List DirectoryEntry) → Lists bytes h more e bound tiles
    → AllByRecursion (LiesIn h.tiles) tiles
lists_lie bytes h zero e bound tiles l = tile_lies h e tiles l
lists_lie bytes h (suc more) e bound tiles l =
    elim l [ inl t ↦ tile_lies h e tiles t | inr d ↦ each_lie h (Lists bytes h more) (lists_lie bytes h more) bound d.0 tiles d.2 ]

abbrev IsFound : List ℕ → Header → Option DirectoryEntry → Type 0
IsFound bytes h o = content_at bytes h o ≡ Ok (content_of_entry bytes h o)

found_either : (bytes : List ℕ) (h : Header) (b : Bool) (t : DirectoryEntry) (o : Option DirectoryEntry) → LiesIn h.tiles t → IsFound bytes h o
    → IsFound bytes h (cond b (Some t) o)
unfolding content_at
found_either bytes h true t o lies f = rw (le-leb (t.offset + t.length) h.tiles.length lies) refl
found_either bytes h false t o lies f = f

found_of : (bytes : List ℕ) (h : Header) (id : ℕ) (tiles : List DirectoryEntry) → AllByRecursion (LiesIn h.tiles) tiles → IsFound bytes h (entry_of tiles id)
unfolding content_at
found_of bytes h id [] lie = refl
found_of bytes h id (t ∷ ts) lie = found_either bytes h (leb t.id id && ltb id (t.id + t.run)) t (entry_of ts id) lie.0 (found_of bytes h id ts lie.1)

-- the content of the id is that of its entry
pub content_found : (bytes : List ℕ) (h : Header) (id more bound : ℕ) (root tiles : List DirectoryEntry) → EachLists (Lists bytes h more) bound root tiles
    → content_at bytes h (entry_of tiles id) ≡ Ok (content_of bytes h tiles id)
content_found bytes h id more bound root tiles l =
    found_of bytes h id tiles (each_lie h (Lists bytes h more) (lists_lie bytes h more) bound root tiles l)
