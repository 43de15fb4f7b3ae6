-- Texts of containers, piece by piece, in either layout.
use Rattle.std.specs.Prelude.{ℕ, suc, Bool, true, false, if◌then◌else◌, List, [], ◌∷◌, ◌++◌, map}
use Rattle.sj_base.specs.Tree.{Tree, Items, Members}
use Rattle.sj_base.specs.Containers.{item_trees, member_pairs}
use Rattle.sj_base.specs.Text.{text, quoted, line_break, pretty_at}
use Rattle.sj_base.specs.declared.layout.Layout.{Layout}
use Rattle.sj_base.specs.declared.layout.Layout.TheVariants.{Compact, Indented}
use Rattle.sj_base.specs.declared.layout.Container.{Container}

-- the text of a tree in a layout
abbrev pub laid_out : Layout → Tree → List ℕ
laid_out Compact t = text t
laid_out (Indented level) t = pretty_at level t

-- the level of indentation
abbrev pub level_of : Layout → ℕ
level_of Compact = 0
level_of (Indented level) = level

-- the layout of the items and members of a container
abbrev pub inside : Layout → Layout
inside Compact = Compact
inside (Indented level) = Indented (suc level)

-- what stands before an item, a key or a closing bracket on a line of its own
abbrev pub line_start : Layout → List ℕ
line_start Compact = []
line_start (Indented level) = line_break level

-- what stands between a key and its value
abbrev pub colon : Layout → List ℕ
colon Compact = 0x3a ∷ []
colon (Indented level) = 0x3a ∷ 0x20 ∷ []

-- a key and its value
abbrev pub member_text : Layout → List ℕ → Tree → List ℕ
member_text layout k t = quoted k ++ (colon layout ++ laid_out layout t)

-- A container whose opening bracket is printed, and nothing else of it.
abbrev pub opened_list : Layout → Container
opened_list layout = record { layout = layout; inside = inside layout; closing = 0x5d; is_empty = true }

abbrev pub opened_object : Layout → Container
opened_object layout = record { layout = layout; inside = inside layout; closing = 0x7d; is_empty = true }

-- the container once an item or a member is printed
abbrev pub filled : Container → Container
filled c = record c { is_empty = false }

-- what stands before the next item or key
abbrev pub before_next : Container → List ℕ
before_next c = (if c.is_empty then [] else 0x2c ∷ []) ++ line_start c.inside

-- what stands before the value of the next member
abbrev pub before_value : Container → List ℕ → List ℕ
before_value c k = before_next c ++ (quoted k ++ colon c.inside)

-- the same in the compact layout, with or without a comma
abbrev pub compact_key : Bool → List ℕ → List ℕ
compact_key with_comma k = (if with_comma then 0x2c ∷ [] else []) ++ (quoted k ++ colon Compact)

-- the closing bracket, and what stands before it
abbrev pub end_text : Container → List ℕ
end_text c = (if c.is_empty then [] else line_start c.layout) ++ c.closing ∷ []

-- what is left to print, from the texts of the items or members that are left
abbrev pub rest_text : Container → List (List ℕ) → List ℕ
rest_text c [] = end_text c
rest_text c (x ∷ xs) = before_next c ++ (x ++ rest_text (filled c) xs)

-- the texts of items and of members in a layout
abbrev pub item_texts : Layout → Items → List (List ℕ)
item_texts layout ts = map (laid_out layout) (item_trees ts)

abbrev pub member_texts : Layout → Members → List (List ℕ)
member_texts layout ms = map (λ m. member_text layout m.0 m.1) (member_pairs ms)
