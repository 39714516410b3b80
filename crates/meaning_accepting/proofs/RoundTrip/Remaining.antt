-- The tokens from a place on, one after another.
use Prim.Native.Nat.{ℕ, suc, ◌<◌}
use native.Mathlib.Omega.{arith}
use mathlib.Core.Path.{◌≡◌, refl}
use mathlib.Core.Bool.{false}
use mathlib.Core.List.{List, [], ◌∷◌}
use lib.ListN.{length}
use Rattle.meaning.specs.Choice.{Bytes}
use Rattle.meaning.specs.Tokens.{Mode, outside, Token, Placed, lexed, skip, lex, mode_after, is_last_token, tokens_from, tokens}
use Rattle.meaning.specs.Grammar.{standing}
use Rattle.meaning_accepting.proofs.Reading.Lexing.{Eats, lex-eats, tokens-bound}

unfoldable pub remaining : Mode → ℕ → Bytes → List Placed
remaining mode at bytes = tokens_from (suc (length bytes)) mode at bytes

pub remaining-whole : (text : Bytes) → tokens text ≡ remaining outside 0 text
unfolding remaining
remaining-whole text = refl

-- a token, and the tokens after it
pub remaining-token : (mode : Mode) (at : ℕ) (bytes : Bytes) (token : Token) (place past : ℕ) (rest : Bytes) →
    lex mode at bytes ≡ lexed token place past rest → is_last_token token ≡ false →
    remaining mode at bytes ≡ standing token place past ∷ remaining (mode_after mode token) past rest
unfolding remaining tokens_from
remaining-token mode at bytes token place past rest e last =
    let shorter : length rest < length bytes = go (rw e at (lex-eats mode at bytes)) in
    rw (e, last, tokens-bound (length bytes) (suc (length rest)) (mode_after mode token) past rest shorter (omega arith))
  where
    go : Eats at (length bytes) (lexed token place past rest) → length rest < length bytes
    go eats = eats.eaten last

-- where no token begins with the first byte, the tokens are those of what comes after it
pub remaining-past : (mode : Mode) (at past b : ℕ) (rest : Bytes) → lex mode at (b ∷ rest) ≡ lex mode past rest →
    remaining mode at (b ∷ rest) ≡ remaining mode past rest
unfolding remaining tokens_from
remaining-past mode at past b rest e =
    rw e (tokens-bound (suc (suc (length rest))) (suc (length rest)) mode past rest (omega arith) (omega arith))

pub remaining-end : (mode : Mode) (at : ℕ) → remaining mode at [] ≡ standing Token.text_end at at ∷ []
unfolding remaining tokens_from lex skip
remaining-end mode at = refl
