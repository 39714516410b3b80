-- Laws of lexing: places go forward, every token but the last eats a byte, so the tokens of a text come to an end and their bound never shows.
use Prim.Native.Nat.{ℕ, zero, suc, ◌≤◌, ◌<◌}
use mathlib.Core.Path.{◌≡◌, refl, sym, ap}
use mathlib.Core.Bool.{Bool, true, false}
use mathlib.Core.List.{List, [], ◌∷◌, ◌++◌}
use mathlib.Core.Option.{Option, none, some}
use native.Mathlib.Omega.{arith}
use lib.Dec.{eqb}
use lib.ListN.{length}
use Rattle.meaning.specs.Choice.{Bytes, pick}
use Rattle.meaning.specs.Classes.{in_class, alphabetic}
use Rattle.meaning.specs.Allowed.{word_byte, name_byte}
use Rattle.meaning.specs.Tokens.{Mode, outside, inside, naming, Token, function_name, word, malformed, Placed, Lexed, lexed, ahead, Gap, between}
use Rattle.meaning.specs.Tokens.{opening, commented, starred, gap_after, Skipped, found, skipped_end, skip_on, skip, Run, run, word_at, Quoting}
use Rattle.meaning.specs.Tokens.{plain}
use Rattle.meaning.specs.Tokens.{Turn, goes_on, closes, breaks, turn, Quotation, quote_on, quotation, quoted_at, bracket_at, token_at, token_past}
use Rattle.meaning.specs.Tokens.{lex}
use Rattle.meaning.specs.Tokens.{mode_after, is_last_token, tokens_from}
use Rattle.meaning.proofs.Laws.Choosing.{of_either}
use Rattle.meaning_accepting.proofs.Reading.Basics.{impossible}
use Rattle.meaning_accepting.proofs.Reading.Sound.{is_nil}
use Rattle.meaning_accepting.proofs.Reading.TokensSound.{run-first}

-- a token that ends no earlier than a place, with no more bytes after it than a number
pub record Within (at size : ℕ) (l : Lexed) : Type 0 where
  pub forward : at ≤ l.first.past
  pub shorter : length l.rest ≤ size

weaker : {at size : ℕ} (l : Lexed) → Within (suc at) size l → Within at (suc size) l
weaker l w = let f = w.forward in let s = w.shorter in record { forward = omega arith; shorter = omega arith }

-- WORDS

module _ (fits : ℕ → Bool) (token : Bytes → Token) (place : ℕ) where
  abbrev taken-token : Run → Lexed
  taken-token r = lexed (token r.taken) place r.past r.rest

  pub run-within : (taken : Bytes) (at : ℕ) (bytes : Bytes) → Within at (length bytes) (taken-token (run fits taken at bytes))
  unfolding run
  run-within taken at [] = record { forward = omega arith; shorter = omega arith }
  run-within taken at (b ∷ rest) = go (fits b) (run-within (taken ++ b ∷ []) (suc at) rest)
    where
      go : (c : Bool) → Within (suc at) (length rest) (taken-token (run fits (taken ++ b ∷ []) (suc at) rest))
          → Within at (length (b ∷ rest))
          (taken-token (pick c (run fits (taken ++ b ∷ []) (suc at) rest) (record { taken = taken; past = at; rest = b ∷ rest })))
      go true w = weaker (taken-token (run fits (taken ++ b ∷ []) (suc at) rest)) w
      go false w = record { forward = omega arith; shorter = omega arith }

  first-within : (at b : ℕ) (rest : Bytes) → fits b ≡ true → Within (suc at) (length rest) (taken-token (run fits [] at (b ∷ rest)))
  first-within at b rest p = rw (run-first fits at b rest p) (run-within (b ∷ []) (suc at) rest)

letter-within : (mode : Mode) (at b : ℕ) (rest : Bytes) → in_class alphabetic b ≡ true → Within (suc at) (length rest) (word_at mode at (b ∷ rest))
letter-within outside at b rest p = first-within name_byte function_name at at b rest (rw p)
letter-within inside at b rest p = first-within word_byte word at at b rest (rw p)
letter-within naming at b rest p = first-within name_byte function_name at at b rest (rw p)

-- STRINGS

quote-on-within : (place at size : ℕ) (t : Turn) (next : Quoting → Bytes → Quotation) (rest : Bytes) → length rest ≤ size
    → ((state : Quoting) (text : Bytes) → Within at size (quoted_at place (next state text)))
    → Within at size (quoted_at place (quote_on t next at rest))
quote-on-within place at size (goes_on state text) next rest l w = w state text
quote-on-within place at size (closes text) next rest l w = record { forward = omega arith; shorter = l }
quote-on-within place at size breaks next rest l w = record { forward = omega arith; shorter = l }

pub quotation-within : (place : ℕ) (state : Quoting) (text : Bytes) (at : ℕ) (bytes : Bytes) →
    Within at (length bytes) (quoted_at place (quotation state text at bytes))
unfolding quotation
quotation-within place state text at [] = record { forward = omega arith; shorter = omega arith }
quotation-within place state text at (b ∷ rest) =
    weaker (quoted_at place (quote_on (turn state text b) (λ next longer. quotation next longer (suc at) rest) (suc at) rest))
    (quote-on-within place (suc at) (length rest) (turn state text b) (λ next longer. quotation next longer (suc at) rest) rest (omega arith)
    (λ next longer. quotation-within place next longer (suc at) rest))

-- TOKENS

bracket-within : (at : ℕ) (rest : Bytes) (b : Bool) → Within (suc at) (length rest) (bracket_at at rest b)
bracket-within at rest true = record { forward = omega arith; shorter = omega arith }
bracket-within at rest false = record { forward = omega arith; shorter = omega arith }

letter-or-within : (mode : Mode) (at b : ℕ) (rest : Bytes) (c : Bool) (other : Lexed) → in_class alphabetic b ≡ c
    → Within (suc at) (length rest) other → Within (suc at) (length rest) (pick c (word_at mode at (b ∷ rest)) other)
letter-or-within mode at b rest true other p w = letter-within mode at b rest p
letter-or-within mode at b rest false other p w = w

-- a token that begins with a byte eats it
pub token-within : (mode : Mode) (at b : ℕ) (rest : Bytes) → Within (suc at) (length rest) (token_at mode at (b ∷ rest))
token-within mode at b rest =
    letter-or-within mode at b rest (in_class alphabetic b) _ refl
    (of_either (Within (suc at) (length rest)) (eqb b 39) (quoted_at at (quotation plain [] (suc at) rest)) _
    (quotation-within at plain [] (suc at) rest)
    (of_either (Within (suc at) (length rest)) (eqb b 60) (bracket_at at rest (ahead (in_class alphabetic) rest)) _
    (bracket-within at rest (ahead (in_class alphabetic) rest))
    (record { forward = omega arith; shorter = omega arith })))

-- after blanks and comments: the place goes forward, and a token that isn't the last eats a byte
pub record Eats (at size : ℕ) (l : Lexed) : Type 0 where
  pub forward : at ≤ l.first.past
  pub eaten : is_last_token l.first.token ≡ false → length l.rest < size

end-eats : (mode : Mode) (gap : Gap) (at size : ℕ) → (slash : ℕ) → Eats at size (lexed malformed slash at [])
end-eats mode gap at size slash = record { forward = omega arith; eaten = λ e. impossible (sym e) }

skipped-eats : (mode : Mode) (gap : Gap) (at : ℕ) → Eats at 0 (token_past mode (skipped_end gap at))
skipped-eats mode between at = record { forward = omega arith; eaten = λ e. impossible (sym e) }
skipped-eats mode (opening slash) at = end-eats mode between at 0 slash
skipped-eats mode (commented slash) at = end-eats mode between at 0 slash
skipped-eats mode (starred slash) at = end-eats mode between at 0 slash

skip-on-eats : (mode : Mode) (at b : ℕ) (rest : Bytes) (o : Option Gap) (next : Gap → Skipped)
    → ((gap : Gap) → Eats (suc at) (length rest) (token_past mode (next gap)))
    → Eats (suc at) (length (b ∷ rest)) (token_past mode (skip_on o next (found at (b ∷ rest))))
skip-on-eats mode at b rest none next w =
    let t = token-within mode at b rest in
    let s = t.shorter in
    record { forward = t.forward; eaten = λ e. omega arith }
skip-on-eats mode at b rest (some gap) next w =
    let t = w gap in
    record { forward = t.forward; eaten = λ e. omega (arith, t.eaten e) }

backward : {at size : ℕ} (l : Lexed) → Eats (suc at) size l → Eats at size l
backward l w = let f = w.forward in record { forward = omega arith; eaten = w.eaten }

pub skip-eats : (mode : Mode) (gap : Gap) (at : ℕ) (bytes : Bytes) → Eats at (length bytes) (token_past mode (skip gap at bytes))
unfolding skip
skip-eats mode gap at [] = skipped-eats mode gap at
skip-eats mode gap at (b ∷ rest) =
    backward (token_past mode (skip gap at (b ∷ rest)))
    (skip-on-eats mode at b rest (gap_after gap at b rest) (λ next. skip next (suc at) rest) (λ next. skip-eats mode next (suc at) rest))

-- where there is a byte, the token ends after it
pub skip-beyond : (mode : Mode) (gap : Gap) (at b : ℕ) (rest : Bytes) → Eats (suc at) (length (b ∷ rest)) (token_past mode (skip gap at (b ∷ rest)))
unfolding skip
skip-beyond mode gap at b rest =
    skip-on-eats mode at b rest (gap_after gap at b rest) (λ next. skip next (suc at) rest) (λ next. skip-eats mode next (suc at) rest)

pub lex-eats : (mode : Mode) (at : ℕ) (bytes : Bytes) → Eats at (length bytes) (lex mode at bytes)
unfolding lex
lex-eats mode at bytes = skip-eats mode between at bytes

-- THE TOKENS OF A TEXT

-- the last token is one after which none comes, and no other is
unfoldable pub ended : List Placed → Bool
ended [] = false
ended (t ∷ ts) = pick (is_last_token t.token) (is_nil ts) (ended ts)

ended-cases : (t : Placed) (b : Bool) (later : List Placed) → is_last_token t.token ≡ b → (is_last_token t.token ≡ false → ended later ≡ true)
    → ended (t ∷ pick b [] later) ≡ true
unfolding ended
ended-cases t true later p e = rw p
ended-cases t false later p e = rw p (e p)

-- a bound above the number of bytes is never reached: the tokens come to their end
pub tokens-ended : (bound : ℕ) (mode : Mode) (at : ℕ) (bytes : Bytes) → length bytes < bound → ended (tokens_from bound mode at bytes) ≡ true
unfolding tokens_from
tokens-ended zero mode at bytes l = absurd (omega arith)
tokens-ended (suc bound) mode at bytes l =
    let x = lex mode at bytes in
    ended-cases x.first (is_last_token x.first.token) (tokens_from bound (mode_after mode x.first.token) x.first.past x.rest) refl
    (λ e. tokens-ended bound (mode_after mode x.first.token) x.first.past x.rest (omega (arith, (lex-eats mode at bytes).eaten e)))

later_same : (b : Bool) (t : Placed) (x y : List Placed) → is_last_token t.token ≡ b → (is_last_token t.token ≡ false → x ≡ y) → t ∷ pick b [] x ≡
    t ∷ pick b [] y
later_same true t x y p e = refl
later_same false t x y p e = ap (λ z. t ∷ z) (e p)

-- and it doesn't matter how far above it is
pub tokens-bound : (b c : ℕ) (mode : Mode) (at : ℕ) (bytes : Bytes) → length bytes < b → length bytes < c
    → tokens_from b mode at bytes ≡ tokens_from c mode at bytes
unfolding tokens_from
tokens-bound zero c mode at bytes l m = absurd (omega arith)
tokens-bound (suc b) zero mode at bytes l m = absurd (omega arith)
tokens-bound (suc b) (suc c) mode at bytes l m =
    let x = lex mode at bytes in
    later_same (is_last_token x.first.token) x.first
    (tokens_from b (mode_after mode x.first.token) x.first.past x.rest)
    (tokens_from c (mode_after mode x.first.token) x.first.past x.rest) refl
    (λ e.
    let s = (lex-eats mode at bytes).eaten e in
    tokens-bound b c (mode_after mode x.first.token) x.first.past x.rest (omega arith) (omega arith))
