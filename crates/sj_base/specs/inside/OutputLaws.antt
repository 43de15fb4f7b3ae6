-- Bytes can be appended in pieces to vectors and to sinks.
use Rattle.std.specs.Prelude.{◌≡◌, ℕ, ◌+◌, List, ◌++◌, Option, Vec}
use Rattle.std.specs.declared.alloc.Global.{Global}
use Rattle.std.proofs.Common.{refl, sym, ap, ◌∙◌, append_assoc, append-nil}
use Rattle.std.proofs.KnownBytes.{Appends-nil, Appends-trans}
use Rattle.sj_base.specs.Calls.{Calls}
use Rattle.sj_base.specs.Output.{Continues, WritesAll, WritesPrefix}

-- a prefix of bytes that stand behind others, or in front of others
prefix_behind : (xs taken rest ys : List ℕ) → ys ≡ taken ++ rest → xs ++ ys ≡ (xs ++ taken) ++ rest
prefix_behind xs taken rest ys e = ap (λ (l : List ℕ). xs ++ l) e ∙ sym (append_assoc xs taken rest)

prefix_before : (taken rest xs ys : List ℕ) → xs ≡ taken ++ rest → xs ++ ys ≡ taken ++ (rest ++ ys)
prefix_before taken rest xs ys e = ap (λ (l : List ℕ). l ++ ys) e ∙ append_assoc taken rest ys

-- `items` is what was appended so far
pub lists_continue : {S : Type 0} (items : S → List ℕ) → Continues {S = S} (λ old new bytes. items new ≡ items old ++ bytes) (λ old new bytes. (taken rest : List ℕ) × (bytes ≡ taken ++ rest) × (items new ≡ items old ++ taken))
lists_continue items = record {
  none = λ s. sym (append-nil (items s));
  then = λ s t u xs ys h k. k ∙ ap (λ (l : List ℕ). l ++ ys) h ∙ append_assoc (items s) xs ys;
  fails = λ s t u xs ys h k. (xs ++ k.0, k.1, prefix_behind xs k.0 k.1 ys k.2, k.3 ∙ ap (λ (l : List ℕ). l ++ k.0) h ∙ append_assoc (items s) xs k.0);
  before = λ s t xs ys h. (h.0, h.1 ++ ys, prefix_before h.0 h.1 xs ys h.2, h.3);
}

pub vectors_continue : Continues {S = Vec ℕ Global} (λ old new bytes. new.items ≡ old.items ++ bytes) (λ old new bytes. (taken rest : List ℕ) × (bytes ≡ taken ++ rest) × (new.items ≡ old.items ++ taken))
vectors_continue = lists_continue (λ v. v.items)

pub sinks_continue : {S : Type 0} (contents : S → Option (List ℕ)) (calls : S → Calls) → Continues {S = S} (λ old new bytes. WritesAll (contents old) (contents new) (calls old) (calls new) bytes) (λ old new bytes. WritesPrefix (contents old) (contents new) (calls old) (calls new) bytes)
sinks_continue contents calls = record {
  none = λ s. (Appends-nil (contents s), refl);
  then = λ s t u xs ys h k. (Appends-trans (contents s) (contents t) (contents u) xs ys h.0 k.0, k.1 ∙ h.1);
  fails = λ s t u xs ys h k. ((xs ++ k.0.0, k.0.1, prefix_behind xs k.0.0 k.0.1 ys k.0.2, Appends-trans (contents s) (contents t) (contents u) xs k.0.0 h.0 k.0.3), k.1 ∙ ap (λ (n : ℕ). n + 1) h.1);
  before = λ s t xs ys h. ((h.0.0, h.0.1 ++ ys, prefix_before h.0.0 h.0.1 xs ys h.0.2, h.0.3), h.1);
}
