-- Compact and pretty printing (RFC 8259, sections 2 to 7, leave the whitespace and the choice of escapes open).
use Rattle.std.specs.Prelude.{ℕ, suc, ◌*◌, ◌-◌, true, false, cond, ◌==◌, nat_lt, List, [], ◌∷◌, ◌++◌, codes, flat_map, replicate}
use Rattle.std.specs.Fmt.{signed_decimal}
use Rattle.std.specs.Char.{digit_char}
use Rattle.sj_base.specs.Tree.{Tree, null, boolean, integer, decimal, string, list, object, Items, no_items, item, Members, no_members, member}

-- A byte of a string as it is printed: `"`, `\` and characters below U+0020 are escaped, and they are one byte each.
abbrev pub escaped : ℕ → List ℕ
escaped b =
    cond (b == 0x22) (0x5c ∷ 0x22 ∷ [])
    (cond (b == 0x5c) (0x5c ∷ 0x5c ∷ [])
    (cond (b == 0x08) (codes "\\b")
    (cond (b == 0x09) (codes "\\t")
    (cond (b == 0x0a) (codes "\\n")
    (cond (b == 0x0c) (codes "\\f")
    (cond (b == 0x0d) (codes "\\r")
    (cond (nat_lt b 0x10) (codes "\\u000" ++ digit_char b ∷ [])
    (cond (nat_lt b 0x20) (codes "\\u001" ++ digit_char (b - 0x10) ∷ [])
    (b ∷ [])))))))))

-- a string or a key, between quotes
abbrev pub quoted : List ℕ → List ℕ
quoted s = 0x22 ∷ (flat_map escaped s ++ 0x22 ∷ [])

abbrev mutual
  pub text : Tree → List ℕ
  text null = codes "null"
  text (boolean true) = codes "true"
  text (boolean false) = codes "false"
  text (integer n) = signed_decimal n
  text (decimal literal) = literal
  text (string s) = quoted s
  text (list ts) = 0x5b ∷ (items_text ts ++ 0x5d ∷ [])
  text (object ms) = 0x7b ∷ (members_text ms ++ 0x7d ∷ [])

  pub items_text : Items → List ℕ
  items_text no_items = []
  items_text (item t ts) = text t ++ more_items_text ts

  -- each with a comma before it
  pub more_items_text : Items → List ℕ
  more_items_text no_items = []
  more_items_text (item t ts) = 0x2c ∷ (text t ++ more_items_text ts)

  pub members_text : Members → List ℕ
  members_text no_members = []
  members_text (member k t ms) = quoted k ++ 0x3a ∷ (text t ++ more_members_text ms)

  pub more_members_text : Members → List ℕ
  more_members_text no_members = []
  more_members_text (member k t ms) = 0x2c ∷ (quoted k ++ 0x3a ∷ (text t ++ more_members_text ms))

-- a line feed, and 2 spaces a level
abbrev pub line_break : ℕ → List ℕ
line_break level = 0x0a ∷ replicate (2 * level) 0x20

-- a key, a colon, a space, and the text of the value
abbrev pub pretty_pair : List ℕ → List ℕ → List ℕ
pretty_pair k value = quoted k ++ 0x3a ∷ 0x20 ∷ value

-- The level is that of the line on which the value begins.
abbrev mutual
  pub pretty_at : ℕ → Tree → List ℕ
  pretty_at level null = codes "null"
  pretty_at level (boolean true) = codes "true"
  pretty_at level (boolean false) = codes "false"
  pretty_at level (integer n) = signed_decimal n
  pretty_at level (decimal literal) = literal
  pretty_at level (string s) = quoted s
  pretty_at level (list no_items) = codes "[]"
  pretty_at level (list (item t ts)) = 0x5b ∷ (line_break (suc level) ++ (pretty_at (suc level) t ++ (pretty_more_items (suc level) ts ++ (line_break level ++ 0x5d ∷ []))))
  pretty_at level (object no_members) = codes "{}"
  pretty_at level (object (member k t ms)) = 0x7b ∷ (line_break (suc level) ++ (pretty_pair k (pretty_at (suc level) t) ++ (pretty_more_members (suc level) ms ++ (line_break level ++ 0x7d ∷ []))))

  pub pretty_more_items : ℕ → Items → List ℕ
  pretty_more_items level no_items = []
  pretty_more_items level (item t ts) = 0x2c ∷ (line_break level ++ (pretty_at level t ++ pretty_more_items level ts))

  pub pretty_more_members : ℕ → Members → List ℕ
  pretty_more_members level no_members = []
  pretty_more_members level (member k t ms) = 0x2c ∷ (line_break level ++ (pretty_pair k (pretty_at level t) ++ pretty_more_members level ms))

abbrev pub pretty : Tree → List ℕ
pretty t = pretty_at 0 t
