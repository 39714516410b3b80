-- The kinds of tokens.
use Prim.Native.Nat.{ℕ}
use Rattle.read_tokens.specs.declared.Span.{Span}
use Rattle.read_tokens.specs.declared.Token.{Token}
use Rattle.read_tokens.specs.declared.Token.TheVariants.{Name, Symbol, Part, Word, Quoted, Sign, End, Malformed}

-- what holds of each kind of token holds of all
pub by_kind : (P : Token → Type 0) → ((n : Span) → P (Name n)) → ((x : Span) → P (Symbol x)) → ((x : Span) → P (Part x)) → P Word
    → ((count : ℕ) → P (Quoted count))
    → ((b : ℕ) → P (Sign b))
    → P End
    → P Malformed
    → (t : Token) → P t
by_kind P n s p w q b e m (Name x) = n x
by_kind P n s p w q b e m (Symbol x) = s x
by_kind P n s p w q b e m (Part x) = p x
by_kind P n s p w q b e m Word = w
by_kind P n s p w q b e m (Quoted x) = q x
by_kind P n s p w q b e m (Sign x) = b x
by_kind P n s p w q b e m End = e
by_kind P n s p w q b e m Malformed = m
