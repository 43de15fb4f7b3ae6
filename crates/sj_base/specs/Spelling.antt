-- The bytes that spell a tree (RFC 8259, sections 2 to 7 and 9).
use Rattle.std.specs.Prelude.{◌≡◌, ℕ, ◌≤◌, ◌⊎◌, true, false, List, [], ◌∷◌, ◌++◌, length, codes}
use Rattle.std.specs.List.{AllByRecursion}
use Rattle.sj_base.specs.Tree.{Tree, null, boolean, integer, decimal, string, list, object, Items, no_items, item, Members, no_members, member, IsInRange, depth}
use Rattle.sj_base.specs.Number.{SpellsInteger, IsDecimal}
use Rattle.sj_base.specs.Characters.{Means}

abbrev pub IsSpace : ℕ → Type 0
IsSpace b = (b ≡ 0x20) ⊎ ((b ≡ 0x09) ⊎ ((b ≡ 0x0a) ⊎ (b ≡ 0x0d)))

abbrev pub AreSpaces : List ℕ → Type 0
AreSpaces bs = AllByRecursion IsSpace bs

-- whitespace, what P holds of, whitespace
pub record Padded (P : List ℕ → Type 0) (bs : List ℕ) : Type 0 where
  pub before : List ℕ
  pub inner : List ℕ
  pub after : List ℕ
  pub parts : bs ≡ before ++ (inner ++ after)
  pub spaces_before : AreSpaces before
  pub spaces_after : AreSpaces after
  pub holds : P inner

-- a string, with its quotes
pub record SpellsString (text bs : List ℕ) : Type 0 where
  pub body : List ℕ
  pub parts : bs ≡ 0x22 ∷ (body ++ 0x22 ∷ [])
  pub means : Means body text

-- bs is what P holds of between these two bytes
abbrev pub Between : ℕ → ℕ → (List ℕ → Type 0) → List ℕ → Type 0
Between left right P bs = (inner : List ℕ) × (bs ≡ left ∷ (inner ++ right ∷ [])) × P inner

-- a key, a colon and a value, each with whitespace around it
abbrev pub Pairs : (List ℕ → Type 0) → (List ℕ → Type 0) → List ℕ → Type 0
Pairs Key Value bs = (key value : List ℕ) × (bs ≡ key ++ 0x3a ∷ value) × Padded Key key × Padded Value value

-- first something, and then the rest
abbrev pub Then : (List ℕ → Type 0) → (List ℕ → Type 0) → List ℕ → Type 0
Then First Rest bs = (first rest : List ℕ) × (bs ≡ first ++ rest) × First first × Rest rest

-- a comma, and then something and the rest
abbrev pub CommaThen : (List ℕ → Type 0) → (List ℕ → Type 0) → List ℕ → Type 0
CommaThen First Rest bs = (first rest : List ℕ) × (bs ≡ 0x2c ∷ (first ++ rest)) × First first × Rest rest

abbrev mutual
  -- without whitespace around it
  pub SpellsValue : Tree → List ℕ → Type 0
  SpellsValue null bs = bs ≡ codes "null"
  SpellsValue (boolean true) bs = bs ≡ codes "true"
  SpellsValue (boolean false) bs = bs ≡ codes "false"
  SpellsValue (integer n) bs = IsInRange n × SpellsInteger n bs
  SpellsValue (decimal literal) bs = (bs ≡ literal) × IsDecimal literal
  SpellsValue (string s) bs = SpellsString s bs
  SpellsValue (list ts) bs = Between 0x5b 0x5d (SpellsItems ts) bs
  SpellsValue (object ms) bs = Between 0x7b 0x7d (SpellsMembers ms) bs

  -- what stands between the brackets of a list: a value, and each further one behind a comma
  pub SpellsItems : Items → List ℕ → Type 0
  SpellsItems no_items bs = AreSpaces bs
  SpellsItems (item t ts) bs = Then (Padded (SpellsValue t)) (SpellsMoreItems ts) bs

  pub SpellsMoreItems : Items → List ℕ → Type 0
  SpellsMoreItems no_items bs = bs ≡ []
  SpellsMoreItems (item t ts) bs = CommaThen (Padded (SpellsValue t)) (SpellsMoreItems ts) bs

  -- what stands between the brackets of an object, likewise
  pub SpellsMembers : Members → List ℕ → Type 0
  SpellsMembers no_members bs = AreSpaces bs
  SpellsMembers (member k t ms) bs = Then (Pairs (SpellsString k) (SpellsValue t)) (SpellsMoreMembers ms) bs

  pub SpellsMoreMembers : Members → List ℕ → Type 0
  SpellsMoreMembers no_members bs = bs ≡ []
  SpellsMoreMembers (member k t ms) bs = CommaThen (Pairs (SpellsString k) (SpellsValue t)) (SpellsMoreMembers ms) bs

-- whitespace, one value, whitespace
abbrev pub Spells : List ℕ → Tree → Type 0
Spells bs t = Padded (SpellsValue t) bs

-- the longest line that is read, in bytes: `u32::MAX`
abbrev pub longest : ℕ
longest = 4294967295

-- A line that spells a tree within a limit of length, and one of depth in levels (section 9 lets a reader set limits).
pub record Document (line : List ℕ) (limit : ℕ) (t : Tree) : Type 0 where
  pub short : length line ≤ longest
  pub spells : Spells line t
  pub shallow : depth t ≤ limit
