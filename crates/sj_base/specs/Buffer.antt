-- The text of a buffer, and its room.
use Rattle.std.specs.Prelude.{ℕ, List, take, length}
use Rattle.sj_base.specs.declared.buffer.TextBuffer.{TextBuffer}

-- What lies behind the first `len` bytes is room.
abbrev pub buffer_text : TextBuffer → List ℕ
buffer_text b = take b.len b.bytes.items

-- The number of bytes of room that are initialized, those of the text among them.
abbrev pub buffer_room : TextBuffer → ℕ
buffer_room b = length b.bytes.items
