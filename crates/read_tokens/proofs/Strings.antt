-- Strings: how one goes on after each of its characters, and what it comes to.
use Prim.Native.Nat.{ℕ, ◌+◌, ◌≤◌, ◌<◌}
use mathlib.Core.Path.{◌≡◌, ◌∙◌}
use mathlib.Core.List.{[], ◌∷◌, ◌++◌}
use native.Mathlib.Omega.{arith}
use lib.ListN.{length, drop, length-append}
use Rattle.meaning.specs.Choice.{Bytes}
use Rattle.meaning.specs.Tokens.{plain, quotation, quoted_at}
use Rattle.read_characters.specs.View.{continued, EndsInText, StandsInString}
use Rattle.read_characters.specs.declared.Character.{Character}
use Rattle.read_characters.specs.declared.Character.TheVariants.{Given, Nothing, Closed, Broken}
use Rattle.read_tokens.specs.View.{quotation_at, ShowsToken}
use Rattle.read_tokens.specs.declared.Token.{Token}
use Rattle.read_tokens.specs.declared.Token.TheVariants.{Quoted, Malformed}

-- the string whose quote stands at a place goes on here with so many characters before
pub record Quoted-to (text : Bytes) (place at count : ℕ) : Type 0 where
  pub characters : Bytes
  pub same : quotation_at text place ≡ quotation plain characters at (drop at text)
  pub counted : length characters ≡ count
  pub charged : place + 1 + count ≤ at
  pub inside : at ≤ length text

-- what the string comes to, or how it goes on, after each character
module _ {text : Bytes} {place at count : ℕ} (q : Quoted-to text place at count) where
  abbrev Shown : Token → ℕ → Type 0
  Shown token past = ShowsToken text (record { token = token; place = place; past = past }) (quoted_at place (quotation_at text place)).first

  abbrev pub QuotedOn : Character → Type 0
  QuotedOn (Given b past) = (at < past) × Quoted-to text place past (count + 1)
  QuotedOn (Nothing past) = (at < past) × Quoted-to text place past count
  QuotedOn (Closed past) = Shown (Quoted count) past
  QuotedOn (Broken past) = Shown Malformed past

  pub quoted-on : (r : Character) → StandsInString text plain at (at + 1) r → QuotedOn r
  quoted-on r s = turned r (q.same ∙ s.same q.characters) s.passes
    where
      turned : (r : Character) → quotation_at text place ≡ continued text r q.characters → EndsInText text (at + 1) r → QuotedOn r
      turned (Given b past) w p = (
        omega arith,
        record {
          characters = q.characters ++ b ∷ [];
          same = w;
          counted = length-append q.characters (b ∷ []) ∙ rw q.counted;
          charged = omega (arith, q.charged);
          inside = p.1;
        },
      )
      turned (Nothing past) w p =
          (omega arith, record { characters = q.characters; same = w; counted = q.counted; charged = omega (arith, q.charged); inside = p.1 })
      turned (Closed past) w p = record { same = rw w; sound = (rw w, rw w q.counted, omega (arith, q.charged)) }
      turned (Broken past) w p = record { same = rw w; sound = tt }
