-- The value of a JSON text (RFC 8259, sections 3 to 7), as a tree. An integer is its number, whichever carrier holds it,
-- and an object may have several members with the same key.
use Rattle.std.specs.Prelude.{ℕ, ℤ, suc, max, Bool, List, ⊤, IsUtf8}
use Rattle.sj_base.specs.Number.{IsDecimal}
pub use Rattle.sj_base.specs.Number.{IsInRange}

-- Strings, keys and decimal literals are lists of bytes.
mutual
  pub data Tree : Type 0 where
    null : Tree
    boolean : Bool → Tree
    integer : ℤ → Tree
    decimal : List ℕ → Tree
    string : List ℕ → Tree
    list : Items → Tree
    object : Members → Tree

  pub data Items : Type 0 where
    no_items : Items
    item : Tree → Items → Items

  pub data Members : Type 0 where
    no_members : Members
    member : List ℕ → Tree → Members → Members

-- Each integer is in range, each decimal literal is one by IsDecimal, and each string and key is UTF-8.
abbrev mutual
  pub IsValidTree : Tree → Type 0
  IsValidTree null = ⊤
  IsValidTree (boolean b) = ⊤
  IsValidTree (integer n) = IsInRange n
  IsValidTree (decimal literal) = IsDecimal literal
  IsValidTree (string s) = IsUtf8 s
  IsValidTree (list ts) = AreValidItems ts
  IsValidTree (object ms) = AreValidMembers ms

  pub AreValidItems : Items → Type 0
  AreValidItems no_items = ⊤
  AreValidItems (item t ts) = IsValidTree t × AreValidItems ts

  pub AreValidMembers : Members → Type 0
  AreValidMembers no_members = ⊤
  AreValidMembers (member k t ms) = IsUtf8 k × IsValidTree t × AreValidMembers ms

-- levels of nesting: 0 for a scalar, 1 for an empty container
abbrev mutual
  pub depth : Tree → ℕ
  depth null = 0
  depth (boolean b) = 0
  depth (integer n) = 0
  depth (decimal literal) = 0
  depth (string s) = 0
  depth (list ts) = suc (items_depth ts)
  depth (object ms) = suc (members_depth ms)

  -- the depth of the deepest item, or of the deepest member
  pub items_depth : Items → ℕ
  items_depth no_items = 0
  items_depth (item t ts) = max (depth t) (items_depth ts)

  pub members_depth : Members → ℕ
  members_depth no_members = 0
  members_depth (member k t ms) = max (depth t) (members_depth ms)
