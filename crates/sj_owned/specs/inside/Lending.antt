-- Laws of documents that lend their parts.
use Rattle.std.specs.Prelude.{◌≡◌, ℕ, List, Some, Vec, option_and_then, slice_get}
use Rattle.std.proofs.Common.{rules}
use Rattle.std.specs.declared.alloc.Global.{Global}
use Rattle.sj_object.specs.declared.entry.Entry.{Entry}
use Rattle.sj_owned.specs.Parts.{item_of}
use Rattle.sj_owned.specs.Views.{array_inside, members_inside}
use Rattle.sj_owned.specs.declared.value.Value.{Value, Static, Decimal, String, Array, Array', Object, Object', the_lemmas}

module _ {K D : Type 0} where
  -- a document that is an array is made of its items
  pub made_of_items : (v : Value K D) (vs : Vec (Value K D) Global) → array_inside v ≡ Some vs → Array vs ≡ v
  made_of_items (Static s) vs h = search (rules, the_lemmas)
  made_of_items (Decimal d) vs h = search (rules, the_lemmas)
  made_of_items (String s) vs h = search (rules, the_lemmas)
  made_of_items (Array' shape all) vs h = search (rules, the_lemmas)
  made_of_items (Object' shape all) vs h = search (rules, the_lemmas)

  -- a document that is an object is made of its members
  pub made_of_members : (v : Value K D) (es : List (Entry K (Value K D))) → members_inside v ≡ Some es → Object es ≡ v
  made_of_members (Static s) es h = search (rules, the_lemmas)
  made_of_members (Decimal d) es h = search (rules, the_lemmas)
  made_of_members (String s) es h = search (rules, the_lemmas)
  made_of_members (Array' shape all) es h = search (rules, the_lemmas)
  made_of_members (Object' shape all) es h = search (rules, the_lemmas)

  -- an item of a document is one of its vector
  pub item_of_vector : (v : Value K D) (i : ℕ) → item_of v i ≡ option_and_then (λ vs. slice_get vs.items i) (array_inside v)
  item_of_vector (Static s) i = search (rules, the_lemmas)
  item_of_vector (Decimal d) i = search (rules, the_lemmas)
  item_of_vector (String s) i = search (rules, the_lemmas)
  item_of_vector (Array' shape all) i = search (rules, the_lemmas)
  item_of_vector (Object' shape all) i = search (rules, the_lemmas)
