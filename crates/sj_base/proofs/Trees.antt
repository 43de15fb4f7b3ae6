-- A tree that is spelled is valid: its strings are UTF-8, and its integers are in range.
use Rattle.std.specs.Prelude.{ℕ, ◌+◌, ◌-◌, ◌*◌, ◌<◌, ◌≤◌, ◌==◌, List, [], ◌∷◌, Option, unwrap_or, encode_utf8, flat_map, IsUtf8}
use Rattle.std.specs.List.{AllByRecursion}
use Rattle.std.specs.Char.{IsScalar}
use Rattle.std.proofs.Common.{refl, sym, subst, arith}
use Rattle.std.proofs.lemmas.Bool.{cond_both, le-ltb, le-leb, lt-ltb}
use Rattle.std.proofs.lemmas.Str.{IsUtf8-nil, IsUtf8-append, IsUtf8-encode}
use Rattle.sj_base.specs.Tree.{Tree, null, boolean, integer, decimal, string, list, object, Items, no_items, item, Members, no_members, member, IsValidTree, AreValidItems, AreValidMembers}
use Rattle.sj_base.specs.Characters.{CharacterForm, raw, short, unit, pair, short_character, hex_value, IsCharacterForm, form_character, Means}
use Rattle.sj_base.specs.Spelling.{SpellsValue, SpellsItems, SpellsMoreItems, SpellsMembers, SpellsMoreMembers}
use Rattle.sj_base.specs.Laws.{SpellsTrees}

-- the character of an escape by one letter
pub IsScalar-short : (letter : ℕ) → IsScalar (unwrap_or (short_character letter) 0)
IsScalar-short letter =
    let P : Option ℕ → Type 0 = λ o. IsScalar (unwrap_or o 0) in
    cond_both (letter == 0x22) _ _ P (λ _. refl) (λ _.
    cond_both (letter == 0x5c) _ _ P (λ _. refl) (λ _.
    cond_both (letter == 0x2f) _ _ P (λ _. refl) (λ _.
    cond_both (letter == 0x62) _ _ P (λ _. refl) (λ _.
    cond_both (letter == 0x66) _ _ P (λ _. refl) (λ _.
    cond_both (letter == 0x6e) _ _ P (λ _. refl) (λ _.
    cond_both (letter == 0x72) _ _ P (λ _. refl) (λ _.
    cond_both (letter == 0x74) _ _ P (λ _. refl) (λ _. refl))))))))

-- the character of a high and a low surrogate
pub IsScalar-pair : (high low : ℕ) → 0xd800 ≤ high → high ≤ 0xdbff → 0xdc00 ≤ low → low ≤ 0xdfff → IsScalar (0x10000 + (high - 0xd800) * 0x400 + (low - 0xdc00))
IsScalar-pair high low a b c d = above (0x10000 + (high - 0xd800) * 0x400 + (low - 0xdc00)) (omega arith) (omega arith)
  where
    above : (n : ℕ) → 0x10000 ≤ n → n < 0x110000 → IsScalar n
    above n lo hi = rw (le-ltb n 55296 (omega arith), le-leb 57344 n (omega arith), lt-ltb n 1114112 hi) refl

-- A form stands for a scalar value.
IsScalar-form : (r : CharacterForm) → IsCharacterForm r → IsScalar (form_character r)
IsScalar-form (raw c) h = h.0
IsScalar-form (short letter) h = IsScalar-short letter
IsScalar-form (unit ds) h = h.1
IsScalar-form (pair high low) h = IsScalar-pair (hex_value high) (hex_value low) h.2.0 h.2.1 h.3.0 h.3.1

-- the characters of forms, in UTF-8
IsUtf8-forms : (forms : List CharacterForm) → AllByRecursion IsCharacterForm forms → IsUtf8 (flat_map (λ r. encode_utf8 (form_character r)) forms)
IsUtf8-forms [] h = IsUtf8-nil
IsUtf8-forms (r ∷ forms) h = IsUtf8-append (encode_utf8 (form_character r)) (flat_map (λ q. encode_utf8 (form_character q)) forms) (IsUtf8-encode (form_character r) (IsScalar-form r h.0)) (IsUtf8-forms forms h.1)

-- The text of a string's body is UTF-8.
pub IsUtf8-from_Means : (body text : List ℕ) → Means body text → IsUtf8 text
IsUtf8-from_Means body text m = subst (λ (ys : List ℕ). IsUtf8 ys) (sym m.meant) (IsUtf8-forms m.forms m.are_forms)

-- A tree that is spelled is valid.
mutual
  pub IsValidTree-from_SpellsValue : (t : Tree) (bs : List ℕ) → SpellsValue t bs → IsValidTree t
  IsValidTree-from_SpellsValue null bs h = tt
  IsValidTree-from_SpellsValue (boolean b) bs h = tt
  IsValidTree-from_SpellsValue (integer n) bs h = h.0
  IsValidTree-from_SpellsValue (decimal literal) bs h = h.1
  IsValidTree-from_SpellsValue (string s) bs h = IsUtf8-from_Means h.body s h.means
  IsValidTree-from_SpellsValue (list ts) bs h = AreValidItems-from_SpellsItems ts h.0 h.2
  IsValidTree-from_SpellsValue (object ms) bs h = AreValidMembers-from_SpellsMembers ms h.0 h.2

  AreValidItems-from_SpellsItems : (ts : Items) (bs : List ℕ) → SpellsItems ts bs → AreValidItems ts
  AreValidItems-from_SpellsItems no_items bs h = tt
  AreValidItems-from_SpellsItems (item t ts) bs h = (IsValidTree-from_SpellsValue t h.3.inner h.3.holds, AreValidItems-from_SpellsMoreItems ts h.1 h.4)

  AreValidItems-from_SpellsMoreItems : (ts : Items) (bs : List ℕ) → SpellsMoreItems ts bs → AreValidItems ts
  AreValidItems-from_SpellsMoreItems no_items bs h = tt
  AreValidItems-from_SpellsMoreItems (item t ts) bs h = (IsValidTree-from_SpellsValue t h.3.inner h.3.holds, AreValidItems-from_SpellsMoreItems ts h.1 h.4)

  AreValidMembers-from_SpellsMembers : (ms : Members) (bs : List ℕ) → SpellsMembers ms bs → AreValidMembers ms
  AreValidMembers-from_SpellsMembers no_members bs h = tt
  AreValidMembers-from_SpellsMembers (member k t ms) bs h =
      let key = h.3.3 in
      let value = h.3.4 in
      (IsUtf8-from_Means key.holds.body k key.holds.means, IsValidTree-from_SpellsValue t value.inner value.holds, AreValidMembers-from_SpellsMoreMembers ms h.1 h.4)

  AreValidMembers-from_SpellsMoreMembers : (ms : Members) (bs : List ℕ) → SpellsMoreMembers ms bs → AreValidMembers ms
  AreValidMembers-from_SpellsMoreMembers no_members bs h = tt
  AreValidMembers-from_SpellsMoreMembers (member k t ms) bs h =
      let key = h.3.3 in
      let value = h.3.4 in
      (IsUtf8-from_Means key.holds.body k key.holds.means, IsValidTree-from_SpellsValue t value.inner value.holds, AreValidMembers-from_SpellsMoreMembers ms h.1 h.4)

-- also with whitespace around it
pub only_trees : SpellsTrees
only_trees bytes t h = IsValidTree-from_SpellsValue t h.inner h.holds
