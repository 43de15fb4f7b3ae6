-- `Object` as a type that may hold the type that holds it, by its values.
use Rattle.std.specs.Prelude.{ℕ, Bool, true, false, ◌&&◌, if◌then◌else◌, List, [], ◌∷◌, Option, Some, None, option_map, map, bytes_eq}
use mathlib.Core.Path.{◌≡◌, refl, sym, ap, ◌∙◌}
use mathlib.Core.Logic.{◌⊎◌, inl, inr}
use mathlib.Core.Former.{Former, this, const, pair, or, list, via, children}
use base.Fml.{ftrue}
use base.Stored.{code_map, gcons, gnil}
use denote.RattleType.{RattleType}
use denote.Memory.{part_of}
use denote.RawPtr.{Ptr}
use denote.Sharing.{nothing}
use denote.HoleLaws.{Alike}
use denote.HolePlaces.{Recodes, struct_places, enum_places, eachs, laid, stays, one_value}
use denote.Hole.Carrier.{listed}
use denote.Hole.Fix.{over}
use denote.Param.Weighed.{Weighed, w_list, w_pair, w_const, w_via}
use denote.Model.Placed.{held, view_places}
use Rattle.std.specs.List.{list_all}
use Rattle.std.specs.Option.{option_eq}
use Rattle.std.specs.declared.cmp.PartialEq as eq
use Rattle.std.specs.formers.vec.Vec as vec
use Rattle.std.specs.declared.alloc.Global.{Global}
use Rattle.std.specs.contracts.alloc.Global as heap
use Rattle.std.specs.contracts.impls.GlobalAllocator.TheImpl.{ghosts}
use Rattle.sj_object.specs.Compare.{agree_at, same_pairs}
use Rattle.std.specs.Global.{Box}
use Rattle.sj_object.specs.Pairs.{keys_of, value_at}
use Rattle.sj_object.specs.inside.Stored.{stored, AreIndexed, AreIndexed-prop}
use Rattle.sj_object.specs.declared.table.Table.{Table}
use Rattle.sj_object.specs.declared.entry.Entry.{Entry}
use Rattle.sj_object.specs.declared.pairs.HashedPairs.{HashedPairs}
use Rattle.sj_object.specs.declared.pairs.Pairs.{Pairs}
use Rattle.sj_object.specs.declared.pairs.Pairs.TheVariants.{Listed, Hashed}
use Rattle.sj_object.specs.declared.key.ObjectKey.{Ghosts}
use Rattle.sj_object.specs.declared.object.Object.TheInside.{Inside}
use Rattle.sj_object.specs.declared.object.Object.TheView.{view, invariant}
use Rattle.std.specs.contracts.boxed.Box as boxed
use Rattle.std.specs.contracts.vec.Vec as vector_of
use Rattle.sj_object.specs.contracts.table.Table as T
use Rattle.sj_object.specs.contracts.pairs.HashedPairs as H
use Rattle.sj_object.specs.contracts.pairs.Pairs as P
use Rattle.sj_object.specs.contracts.entry.Entry as E
use Rattle.sj_object.specs.contracts.object.Object as C
use Rattle.sj_object.specs.contracts.object.Object.TheInside as I

abbrev entry : Former {0} → Type 0 → Former {0}
entry g K = via (pair (const K) g) (λ X. Entry K (g.Of X)) (λ X e. (e.key, e.value)) (λ X v. record { key = v.0; value = v.1 }) (λ X e. refl) (λ X v. refl)

abbrev pub the_former : Former {0} → Type 0 → Former {0}
the_former g K = list (entry g K)

abbrev pub the_weighed : {g : Former {0}} → Weighed g → (K : Type 0) → Weighed (the_former g K)
the_weighed {g} w K = w_list (w_via (w_pair (w_const K) w) (λ X. Entry K (g.Of X)) (λ X e. (e.key, e.value)) (λ X v. record { key = v.0; value = v.1 }) (λ X e. refl) (λ X v. refl))

pub the_empty : (K : Type 0) → K → List (Entry K ⊥)
the_empty K k = []

abbrev pub the_items : (K X : Type 0) → List (Entry K X) → List X
the_items K X es = map (λ e. e.value) es

pub the_items_listed : (K X : Type 0) (es : List (Entry K X)) → listed _ (children (the_former this K) X es) ≡ the_items K X es
the_items_listed K X [] = refl
the_items_listed K X (e ∷ es) = ap (λ l. e.value ∷ l) (the_items_listed K X es)

abbrev on_value : {K X Y : Type 0} → (X → Y) → Entry K X → Entry K Y
on_value h e = record { key = e.key; value = h e.value }

keys_kept : {K X Y : Type 0} (text : K → List ℕ) (h : X → Y) (es : List (Entry K X)) → keys_of text (map (on_value h) es) ≡ keys_of text es
keys_kept text h [] = refl
keys_kept text h (e ∷ es) = ap (λ l. text e.key ∷ l) (keys_kept text h es)

-- the vector of the pairs
abbrev vector : Type 0 → Former {0}
vector K = vec.the_former (entry this K) Global

-- the pairs with their table, in a box
abbrev hashed : Type 0 → Former {0}
hashed K = pair (const (Ptr × Global)) (pair (vector K) (const Table))

module _ {K X : Type 0} where
  abbrev split : Pairs K X → (vector K).Of X ⊎ (hashed K).Of X
  split (Listed entries) = inl entries
  split (Hashed b) = inr ((b.ptr, b.alloc), (b.value.entries, b.value.table))

  abbrev join : (vector K).Of X ⊎ (hashed K).Of X → Pairs K X
  join (inl entries) = Listed entries
  join (inr h) = Hashed (record { ptr = h.0.0; alloc = h.0.1; value = record { entries = h.1.0; table = h.1.1 } })

  join-split : (p : Pairs K X) → join (split p) ≡ p
  join-split (Listed entries) = refl
  join-split (Hashed b) = refl

  split-join : (s : (vector K).Of X ⊎ (hashed K).Of X) → split (join s) ≡ s
  split-join (inl entries) = refl
  split-join (inr h) = refl

abbrev fields : Type 0 → Former {0}
fields K = via (or (vector K) (hashed K)) (λ X. Inside K X) (λ X a. split a.pairs) (λ X s. record { pairs = join s }) (λ X a i. record { pairs = join-split a.pairs i }) (λ X s. split-join s)

abbrev with_value : {X Y : Type 0} → Box X → Y → Box Y
with_value b y = record { ptr = b.ptr; alloc = b.alloc; value = y }

module _ {K X Y : Type 0} (h : X → Y) where
  abbrev over_hashed : HashedPairs K X → HashedPairs K Y
  over_hashed p = record { entries = vec.mapped (on_value h) p.entries; table = p.table }

  abbrev over_box : Box (HashedPairs K X) → Box (HashedPairs K Y)
  over_box b = with_value b (over_hashed b.value)

  abbrev over_pairs : Pairs K X → Pairs K Y
  over_pairs (Listed entries) = Listed (vec.mapped (on_value h) entries)
  over_pairs (Hashed b) = Hashed (over_box b)

  over_is : (p : Pairs K X) → ((fields K).map X Y h (record { pairs = p })).pairs ≡ over_pairs p
  over_is (Listed entries) = refl
  over_is (Hashed b) = refl

  natural : (p : Pairs K X) → (stored ((fields K).map X Y h (record { pairs = p })).pairs).items ≡ map (on_value h) (stored p).items
  natural (Listed entries) = refl
  natural (Hashed b) = refl

  indexed_to : (text : K → List ℕ) (p : Pairs K X) → AreIndexed text p → AreIndexed text ((fields K).map X Y h (record { pairs = p })).pairs
  indexed_to text (Listed entries) is = rw (keys_kept text h entries.items) is
  indexed_to text (Hashed b) is = rw (keys_kept text h b.value.entries.items) is

  indexed_from : (text : K → List ℕ) (p : Pairs K X) → AreIndexed text ((fields K).map X Y h (record { pairs = p })).pairs → AreIndexed text p
  indexed_from text (Listed entries) is = rw (keys_kept text h entries.items) at is
  indexed_from text (Hashed b) is = rw (keys_kept text h b.value.entries.items) at is

held_same : (K X : Type 0) (p : Pairs K X) → held (the_former this K) X (stored p).items ≡ held (fields K) X (record { pairs = p })
held_same K X (Listed entries) = refl
held_same K X (Hashed b) = refl

abbrev box_of : RattleType → RattleType
box_of X = boxed.the_row X heap.the_row ghosts

-- A box is laid out by the layout of its value, and owns and lends what the value does. So it goes along with it
module _ (X Y : RattleType) (k : X.Denot → Y.Denot) (a : Alike X Y k) where
  box_places : Alike (box_of X) (box_of Y) (λ b. with_value b (k b.value))
  unfolding part_of
  box_places = record {
    mir_same = λ i. (box_of (one_value X (a.mir_same i) (λ _. ftrue) (λ _ _. nothing) gnil)).mir;
    own_same = λ b i. (box_of (one_value X (a.mir_same i) (a.own_same b.value i) (a.shr_same b.value i) gnil)).own_val (with_value b tt);
    shr_same = λ b i. (box_of (one_value X (a.mir_same i) (a.own_same b.value i) (a.shr_same b.value i) gnil)).shr_at (with_value b tt);
  }

module _ (K : RattleType) (G : Ghosts K.Denot) (R S : RattleType) (h : R.Denot → S.Denot) where
  entry_places : Alike R S h → Alike (E.the_row K R) (E.the_row K S) (on_value h)
  entry_places a = struct_places (E.the_type K R) (E.the_type K S) (λ k. k, (h, tt)) _ (λ d. refl) refl (stays K, (laid _ _ _ a, tt))

  vec_places : Alike R S h → Alike (vector_of.the_row (E.the_row K R) heap.the_row ghosts) (vector_of.the_row (E.the_row K S) heap.the_row ghosts) (vec.mapped (on_value h))
  vec_places a = vec.the_places heap.the_row ghosts (E.the_row K R) (E.the_row K S) (on_value h) (entry_places a)

  hashed_places : Alike R S h → Alike (H.the_row K R) (H.the_row K S) (over_hashed h)
  hashed_places a = struct_places (H.the_type K R) (H.the_type K S) (vec.mapped (on_value h), (λ t. t, tt)) (over_hashed h) (λ d. refl) refl (laid _ _ _ (vec_places a), (stays T.the_row, tt))

  variant : (p : Pairs K.Denot R.Denot)
      → (P.enum K S).as_values (over_pairs h p) ≡ eachs (P.enum K R).parts (P.enum K S).parts ((vec.mapped (on_value h), tt), ((over_box h, tt), tt)) ((P.enum K R).as_values p)
  variant (Listed entries) = refl
  variant (Hashed b) = refl

  pairs_places : Alike R S h → Alike (P.the_row K R) (P.the_row K S) (over_pairs h)
  pairs_places a = enum_places (P.enum K R) (P.enum K S) ((vec.mapped (on_value h), tt), ((over_box h, tt), tt)) (over_pairs h) variant refl
      ((laid _ _ _ (vec_places a), tt), ((laid _ _ _ (box_places (H.the_row K R) (H.the_row K S) (over_hashed h) (hashed_places a)), tt), tt))

  pub the_places : Alike R S h → Alike (C.the_row K R G) (C.the_row K S G) ((the_former this K.Denot).map R.Denot S.Denot h)
  the_places a = view_places (fields K.Denot) (the_former this K.Denot) (λ X. view K.Denot X G) (λ X Y k u. natural k u.pairs) (λ X u. held_same K.Denot X u.pairs) R.Denot S.Denot h (C.the_row K R G).coded (C.the_row K S G).coded
      (invariant K.Denot R.Denot G) (invariant K.Denot S.Denot G) (λ u. AreIndexed-prop _ _) (λ u. AreIndexed-prop _ _)
      (λ u. indexed_to h G.text u.pairs) (λ u. indexed_from h G.text u.pairs)
      (over (I.the_row K R G)) (over (I.the_row K S G))
      (struct_places (I.the_type K R G) (I.the_type K S G) (over_pairs h, tt) _ (λ d i. (over_is h d.pairs i, tt)) refl (laid _ _ _ (pairs_places a), tt))

  pub the_codes_placed : Recodes R S h → Recodes (C.the_row K R G) (C.the_row K S G) ((the_former this K.Denot).map R.Denot S.Denot h)
  the_codes_placed e d = sym (code_map (λ x. gcons (K.coded.code x.key) (R.coded.code x.value)) (λ x. gcons (K.coded.code x.key) (S.coded.code x.value)) (on_value h) (λ x. ap (gcons (K.coded.code x.key)) (sym (e x.value))) d)

-- a look-up after `map h` is the look-up's value after h
chosen : {X Y : Type 0} (h : X → Y) (b : Bool) (v : X) (r : Option X) → (if b then Some (h v) else option_map h r) ≡ option_map h (if b then Some v else r)
chosen h true v r = refl
chosen h false v r = refl

value_at-map : {K X Y : Type 0} (text : K → List ℕ) (h : X → Y) (es : List (Entry K X)) (k : List ℕ) → value_at text (map (on_value h) es) k ≡ option_map h (value_at text es k)
value_at-map text h [] k = refl
value_at-map text h (e ∷ es) k =
    (λ i. if bytes_eq (text e.key) k then Some (h e.value) else value_at-map text h es k i) ∙ chosen h (bytes_eq (text e.key) k) e.value (value_at text es k)

agreed : {X Y : Type 0} (h : X → Y) (E : Y → Y → Bool) (p q : Option X) → option_eq E (option_map h p) (option_map h q) ≡ option_eq (λ a b. E (h a) (h b)) p q
agreed h E None None = refl
agreed h E None (Some y) = refl
agreed h E (Some x) None = refl
agreed h E (Some x) (Some y) = refl

module _ (K X Y : Type 0) (h : X → Y) (G : Ghosts K) (V : eq.Ghosts Y) (es fs : List (Entry K X)) where
  abbrev after : List ℕ → Bool
  after = agree_at G.text V.eq (map (on_value h) es) (map (on_value h) fs)

  each : (k : List ℕ) → after k ≡ agree_at G.text (λ x y. V.eq (h x) (h y)) es fs k
  each k = (λ i. option_eq V.eq (value_at-map G.text h es k i) (value_at-map G.text h fs k i)) ∙ agreed h V.eq (value_at G.text es k) (value_at G.text fs k)

  -- `==` after `map h` is `==` along h
  pub the_eq_natural : same_pairs G.text V.eq ((the_former this K).map X Y h es) ((the_former this K).map X Y h fs) ≡ same_pairs G.text (λ x y. V.eq (h x) (h y)) es fs
  the_eq_natural =
      (λ i. list_all after (keys_kept G.text h es i) && list_all after (keys_kept G.text h fs i))
      ∙ (λ i. list_all (λ k. each k i) (keys_of G.text es) && list_all (λ k. each k i) (keys_of G.text fs))
