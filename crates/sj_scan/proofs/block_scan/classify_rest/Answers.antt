use Rattle.std.proofs.Common.{◌≡◌, ℕ, ◌+◌, ◌-◌, ◌≤◌, Bool, List, ◌++◌, length, take, drop, replicate, ap, subst, ◌∙◌, arith, refl, IsTrue, ◌↔◌, take-append-drop}
use Rattle.std.specs.Str.{IsUtf8, is_utf8}
use lib.Lanes.{chunk}
use Rattle.sj_scan.specs.declared.classes.Classes.{Classes}
use Rattle.sj_scan.specs.inside.Blocks.{IsClassified, filled_up}
use Rattle.sj_scan.proofs.Skips.{skipped}
use Rattle.sj_scan.proofs.Utf8.{IsAscii-spaces, is_utf8-front, is_utf8-whole}
use Rattle.sj_scan.proofs.Rests.{rest-is, read-is, length-end, skipped-is, IsAscii-rest}
use Rattle.sj_scan.proofs.block_scan.classify_rest.Goals as goal

-- where the bytes that are left were filled up and read
read_filled_up : (bytes block : List ℕ) (at : ℕ) (answer : Bool) → at ≤ length bytes → block ≡ filled_up (take (length bytes - at) (drop at bytes)) → (IsTrue answer ↔ IsUtf8 (take at bytes ++ block)) → answer ≡ is_utf8 bytes
read_filled_up bytes block at answer within is says =
    let n = 64 - length (drop at bytes) in
    let read = ap (λ xs. take at bytes ++ xs) (is ∙ ap filled_up (rest-is bytes at within)) ∙ read-is bytes at within in
    is_utf8-front bytes (replicate n 0x20) (IsAscii-spaces n) answer (subst (λ xs. IsTrue answer ↔ IsUtf8 xs) read says)

-- the classes of the last block, of which the first bytes are skipped
classified : (bytes : List ℕ) (at count : ℕ) (classes whole : Classes) → at ≤ length bytes → 64 ≤ length bytes → length bytes ≤ at + 64 → count ≡ 64 - length (take (length bytes - at) (drop at bytes))
    → ((block : List ℕ) → length block ≡ 64 → IsClassified block whole → IsClassified (skipped count block) classes) → IsClassified (chunk (length bytes - 64) 64 bytes) whole
    → IsClassified (filled_up (drop at bytes)) classes
classified bytes at count classes whole within long last is skips of =
    let rest = ap (λ xs. 64 - length xs) (rest-is bytes at within) in
    subst (λ block. IsClassified block classes) (skipped-is bytes at within long last count (is ∙ rest)) (skips (chunk (length bytes - 64) 64 bytes) (length-end bytes at within long last) of)

pub returns-then-bytes-lt-BLOCK-clause-utf8 : goal.returns-then-bytes-lt-BLOCK-clause-utf8
returns-then-bytes-lt-BLOCK-clause-utf8 c =
    let bytes = c.args.bytes.now in
    let at = c.args.at in
    let read = take at bytes in
    read_filled_up bytes c.filled_up-block.result at c.finish.result (omega arith) c.filled_up-block.ensures (c.finish.ensures (read ++ c.filled_up-block.result) (c.step.ensures read c.requires.read))

pub returns-then-is_ascii-clause-classes : goal.returns-then-is_ascii-clause-classes
returns-then-is_ascii-clause-classes c =
    classified c.args.bytes.now c.args.at _ c.skipped-classes.result c.of-2.result (omega arith) c.if-bytes-lt-BLOCK.false c.requires.rest.1 refl c.skipped-classes.ensures c.of-2.ensures

pub returns-else-is_ascii-clause-classes : goal.returns-else-is_ascii-clause-classes
returns-else-is_ascii-clause-classes c =
    classified c.args.bytes.now c.args.at _ c.skipped-classes.result c.of-2.result (omega arith) c.if-bytes-lt-BLOCK.false c.requires.rest.1 refl c.skipped-classes.ensures c.of-2.ensures

pub returns-then-is_ascii-clause-utf8 : goal.returns-then-is_ascii-clause-utf8
returns-then-is_ascii-clause-utf8 c =
    let bytes = c.args.bytes.now in
    let at = c.args.at in
    let ascii = IsAscii-rest bytes at (omega arith) c.if-bytes-lt-BLOCK.false c.requires.rest.1 (c.is_ascii.ensures c.if-is_ascii.true) in
    is_utf8-whole (take at bytes) (drop at bytes) ascii c.finish-is_utf8.result (c.finish-is_utf8.ensures (take at bytes) c.requires.read) ∙ ap is_utf8 (take-append-drop at bytes)

pub returns-else-is_ascii-clause-utf8 : goal.returns-else-is_ascii-clause-utf8
returns-else-is_ascii-clause-utf8 c =
    let bytes = c.args.bytes.now in
    let at = c.args.at in
    let read = take at bytes in
    read_filled_up bytes c.filled_up.result at c.finish-is_utf8-else-is_ascii.result (omega arith) c.filled_up.ensures
    (c.finish-is_utf8-else-is_ascii.ensures (read ++ c.filled_up.result) (c.step-else-is_ascii.ensures read c.requires.read))
