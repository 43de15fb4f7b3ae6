-- Printing piece by piece: what is left to print, and the whole. Encoders of containers cite these lemmas.
use Rattle.std.proofs.Common.{◌≡◌, ℕ, List, [], ◌∷◌, ◌++◌, subst, sym, ap, ◌∙◌, append_assoc}
use Rattle.sj_base.specs.Output.{Continues}
use Rattle.sj_base.specs.Tree.{Tree, list, object, Items, item, Members, member}
use Rattle.sj_base.specs.Text.{quoted}
use Rattle.sj_base.specs.Layout.{laid_out, inside, colon, opened_list, opened_object, filled, before_next, rest_text, item_texts, member_texts}
use Rattle.sj_base.specs.declared.layout.Layout.{Layout}
use Rattle.sj_base.specs.declared.layout.Container.{Container}
use Rattle.sj_base.proofs.LaidOut.{lists_laid_out, objects_laid_out}

-- Appending what is left appends the whole, and appending a prefix of it appends a prefix of the whole.
pub record Toward {S : Type 0} (A B : S → S → List ℕ → Type 0) (start now : S) (left whole : List ℕ) : Type 0 where
  pub appended : (end : S) → A now end left → A start end whole
  pub begun : (end : S) → B now end left → B start end whole

pub same_left : {S : Type 0} {A B : S → S → List ℕ → Type 0} {start now : S} {xs whole : List ℕ} (ys : List ℕ) → Toward A B start now xs whole → xs ≡ ys → Toward A B start now ys whole
same_left {S} {A} {B} {start} {now} {xs} {whole} ys h e = subst (λ (l : List ℕ). Toward A B start now l whole) e h

pub step : {S : Type 0} {A B : S → S → List ℕ → Type 0} {start now next : S} {whole : List ℕ} → Continues A B → (piece left : List ℕ) → Toward A B start now (piece ++ left) whole → A now next piece → Toward A B start next left whole
step {S} {A} {B} {start} {now} {next} l piece left h a = record {
  appended = λ end b. h.appended end (l.then now next end piece left a b);
  begun = λ end b. h.begun end (l.fails now next end piece left a b);
}

-- a piece of which only a prefix is appended
pub fault : {S : Type 0} {A B : S → S → List ℕ → Type 0} {start now next : S} {whole : List ℕ} → Continues A B → (piece left : List ℕ) → Toward A B start now (piece ++ left) whole → B now next piece → B start next whole
fault {S} {A} {B} {start} {now} {next} l piece left h b = h.begun next (l.before now next piece left b)

all_left : {S : Type 0} {A B : S → S → List ℕ → Type 0} (start : S) (whole : List ℕ) → Toward A B start start whole whole
all_left start whole = record { appended = λ end a. a; begun = λ end b. b }

-- the opening bracket
list_begins : {S : Type 0} {A B : S → S → List ℕ → Type 0} (start : S) (y : Layout) (ts : Items) → Toward A B start start (0x5b ∷ rest_text (opened_list y) (item_texts (inside y) ts)) (laid_out y (list ts))
list_begins start y ts = same_left (0x5b ∷ rest_text (opened_list y) (item_texts (inside y) ts)) (all_left start (laid_out y (list ts))) (lists_laid_out y ts)

pub list_fault : {S : Type 0} {A B : S → S → List ℕ → Type 0} {start next : S} → Continues A B → (y : Layout) (ts : Items) → B start next (0x5b ∷ []) → B start next (laid_out y (list ts))
list_fault {S} {A} {B} {start} l y ts b = fault l (0x5b ∷ []) (rest_text (opened_list y) (item_texts (inside y) ts)) (list_begins start y ts) b

pub list_opened : {S : Type 0} {A B : S → S → List ℕ → Type 0} {start next : S} → Continues A B → (y : Layout) (ts : Items) (c : Container) → c ≡ opened_list y → A start next (0x5b ∷ []) → Toward A B start next (rest_text c (item_texts c.inside ts)) (laid_out y (list ts))
list_opened {S} {A} {B} {start} {next} l y ts c is a =
    subst (λ (x : Container). Toward A B start next (rest_text x (item_texts x.inside ts)) (laid_out y (list ts))) (sym is)
    (step l (0x5b ∷ []) (rest_text (opened_list y) (item_texts (inside y) ts)) (list_begins start y ts) a)

object_begins : {S : Type 0} {A B : S → S → List ℕ → Type 0} (start : S) (y : Layout) (ms : Members) → Toward A B start start (0x7b ∷ rest_text (opened_object y) (member_texts (inside y) ms)) (laid_out y (object ms))
object_begins start y ms = same_left (0x7b ∷ rest_text (opened_object y) (member_texts (inside y) ms)) (all_left start (laid_out y (object ms))) (objects_laid_out y ms)

pub object_fault : {S : Type 0} {A B : S → S → List ℕ → Type 0} {start next : S} → Continues A B → (y : Layout) (ms : Members) → B start next (0x7b ∷ []) → B start next (laid_out y (object ms))
object_fault {S} {A} {B} {start} l y ms b = fault l (0x7b ∷ []) (rest_text (opened_object y) (member_texts (inside y) ms)) (object_begins start y ms) b

pub object_opened : {S : Type 0} {A B : S → S → List ℕ → Type 0} {start next : S} → Continues A B → (y : Layout) (ms : Members) (c : Container) → c ≡ opened_object y → A start next (0x7b ∷ []) → Toward A B start next (rest_text c (member_texts c.inside ms)) (laid_out y (object ms))
object_opened {S} {A} {B} {start} {next} l y ms c is a =
    subst (λ (x : Container). Toward A B start next (rest_text x (member_texts x.inside ms)) (laid_out y (object ms))) (sym is)
    (step l (0x7b ∷ []) (rest_text (opened_object y) (member_texts (inside y) ms)) (object_begins start y ms) a)

-- the next item and the rest
pub next_item : {S : Type 0} {A B : S → S → List ℕ → Type 0} {start now : S} {whole : List ℕ} (c : Container) (us : Items) (t : Tree) (ts : Items) → Toward A B start now (rest_text c (item_texts c.inside us)) whole → us ≡ item t ts → Toward A B start now (before_next c ++ (laid_out c.inside t ++ rest_text (filled c) (item_texts c.inside ts))) whole
next_item {S} {A} {B} {start} {now} {whole} c us t ts h is =
    same_left (before_next c ++ (laid_out c.inside t ++ rest_text (filled c) (item_texts c.inside ts))) h (ap (λ (vs : Items). rest_text c (item_texts c.inside vs)) is)

-- the next member and the rest, with the key and the value as two pieces
pub next_member : {S : Type 0} {A B : S → S → List ℕ → Type 0} {start now : S} {whole : List ℕ} (c : Container) (us : Members) (k : List ℕ) (t : Tree) (ms : Members) → Toward A B start now (rest_text c (member_texts c.inside us)) whole → us ≡ member k t ms → Toward A B start now ((before_next c ++ (quoted k ++ colon c.inside)) ++ (laid_out c.inside t ++ rest_text (filled c) (member_texts c.inside ms))) whole
next_member {S} {A} {B} {start} {now} {whole} c us k t ms h is =
    let before = before_next c in
    let between = colon c.inside in
    let value = laid_out c.inside t in
    let rest = rest_text (filled c) (member_texts c.inside ms) in
    same_left ((before ++ (quoted k ++ between)) ++ (value ++ rest)) h
    (ap (λ (vs : Members). rest_text c (member_texts c.inside vs)) is
    ∙ ap (λ (l : List ℕ). before ++ l) (append_assoc (quoted k) (between ++ value) rest
    ∙ ap (λ (l : List ℕ). quoted k ++ l) (append_assoc between value rest)
    ∙ sym (append_assoc (quoted k) between (value ++ rest)))
    ∙ sym (append_assoc before (quoted k ++ between) (value ++ rest)))

-- a value whose printing fails, and one that is printed
pub value_fault : {S : Type 0} {A B : S → S → List ℕ → Type 0} {start now middle next : S} {whole : List ℕ} → Continues A B → (before value rest : List ℕ) → Toward A B start now (before ++ (value ++ rest)) whole → A now middle before → B middle next value → B start next whole
value_fault l before value rest h a b = fault l value rest (step l before (value ++ rest) h a) b

pub value_printed : {S : Type 0} {A B : S → S → List ℕ → Type 0} {start now middle next : S} {whole : List ℕ} → Continues A B → (before value rest : List ℕ) → Toward A B start now (before ++ (value ++ rest)) whole → A now middle before → A middle next value → Toward A B start next rest whole
value_printed l before value rest h a b = step l value rest (step l before (value ++ rest) h a) b
