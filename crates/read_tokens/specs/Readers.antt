-- What a reader holds: the table text and a place in it.
use Rattle.std.specs.Prelude.{ℕ, List}
use Rattle.std.specs.Borrow.{Bor}
use Rattle.read_tokens.specs.declared.reader.Reader.{Reader}

-- a reader of a lent text at a place of it
abbrev pub reader_at : Bor (List ℕ) → ℕ → Reader
reader_at text at = record { text = text; at = at }
