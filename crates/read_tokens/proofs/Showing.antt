-- Tokens: what the scanners found is the token of the definition.
use Prim.Native.Nat.{ℕ, suc, ◌+◌, ◌≤◌, ◌<◌}
use mathlib.Core.Path.{◌≡◌, refl, ap}
use mathlib.Core.Bool.{Bool, true, false}
use mathlib.Core.List.{[], ◌∷◌, ◌++◌}
use native.Mathlib.Numerals.{add-one}
use native.Mathlib.Omega.{arith}
use lib.ListN.{length, get_or, drop}
use lib.Seq.{slice}
use borrow.Author.Tests.{ne_eqb}
use Rattle.meaning.specs.Choice.{Bytes, pick}
use Rattle.meaning.specs.Classes.{in_class, alphabetic}
use Rattle.meaning.specs.Allowed.{word_byte, name_byte}
use Rattle.meaning.specs.Tokens as Tokens
use Rattle.read_tokens.specs.View.{RunsTo, LetterAt, quotation_at, token_of, Sound, ShowsToken}
use Rattle.read_tokens.specs.declared.Token.{Token}
use Rattle.read_tokens.specs.declared.Token.TheVariants.{Name, Sign, Malformed}
use Rattle.meaning.proofs.Laws.Places.{here, nothing}
use Rattle.read_tokens.proofs.Words.{letter-word}

-- a run never goes back
run-onward : (fits : ℕ → Bool) (bytes taken : Bytes) (at : ℕ) → at ≤ (Tokens.run fits taken at bytes).past
unfolding Tokens.run
run-onward fits [] taken at = omega arith
run-onward fits (b ∷ rest) taken at = pass (fits b) (run-onward fits rest (taken ++ b ∷ []) (suc at))
  where
    pass : (is : Bool) → suc at ≤ (Tokens.run fits (taken ++ b ∷ []) (suc at) rest).past
        → at
        ≤ (pick is (Tokens.run fits (taken ++ b ∷ []) (suc at) rest) (record { taken = taken; past = at; rest = b ∷ rest })).past
    pass true h = omega arith
    pass false h = omega arith

module _ (text : Bytes) (at past : ℕ) where
  pub shows-name : RunsTo text name_byte at past
      → ShowsToken text (record { token = Name (record { from = at; past = past }); place = at; past = past })
      (Tokens.name_token at (Tokens.run name_byte [] at (drop at text))).first
  shows-name r = record { same = rw r.same; sound = (refl, refl) }

  pub shows-word : (token : Token) → RunsTo text word_byte at past → (token_of text token at past ≡ Tokens.word (slice at past text)) ×
      Sound text token at past
      → ShowsToken text (record { token = token; place = at; past = past }) (Tokens.word_token at (Tokens.run word_byte [] at (drop at text))).first
  shows-word token r w = record { same = rw (r.same, w.0); sound = w.1 }

  -- a word has a letter at least
  pub word_some : LetterAt text at → RunsTo text word_byte at past → at < past
  unfolding Tokens.run
  word_some l r =
      let e : (Tokens.run word_byte (get_or text at 0 ∷ []) (suc at) (drop (suc at) text)).past ≡ past =
      rw (here text at l.inside, letter-word (get_or text at 0) l.letter) at (ap (λ (x : Tokens.Run). x.past) r.same)
      in
      omega (arith, run-onward word_byte (drop (suc at) text) (get_or text at 0 ∷ []) (suc at))

module _ (text : Bytes) (at : ℕ) where
  abbrev letter_ahead : Bool
  letter_ahead = Tokens.ahead (in_class alphabetic) (drop (suc at) text)

  abbrev bracket : Bool → Token
  bracket true = Sign 60
  bracket false = Malformed

  pub shows-bracket : (letter : Bool) → letter ≡ letter_ahead
      → ShowsToken text (record { token = bracket letter; place = at; past = at + 1 }) (Tokens.bracket_at at (drop (suc at) text) letter_ahead).first
  shows-bracket true e = record { same = rw (← e, add-one); sound = tt }
  shows-bracket false e = record { same = rw (← e, add-one); sound = tt }

-- a byte stands at a place, a letter or another one
pub record ByteAt (text : Bytes) (at : ℕ) (letter : Bool) : Type 0 where
  pub inside : at < length text
  pub class : in_class alphabetic (get_or text at 0) ≡ letter

-- the token that begins at a place, by the byte that stands there
module _ (text : Bytes) (mode : Tokens.Mode) (at : ℕ) where
  pub at-end : length text ≤ at → Tokens.token_at mode at (drop at text) ≡ Tokens.lexed Tokens.text_end at at []
  at-end h = rw (nothing text at h)

  pub at-letter : ByteAt text at true → Tokens.token_at mode at (drop at text) ≡ Tokens.word_at mode at (drop at text)
  at-letter l = rw (here text at l.inside, l.class)

  module _ (o : ByteAt text at false) where
    pub at-quote : get_or text at 0 ≡ 39 → Tokens.token_at mode at (drop at text) ≡ Tokens.quoted_at at (quotation_at text at)
    at-quote e = rw (here text at o.inside, o.class, e)

    pub at_bracket : get_or text at 0 ≡ 60 → Tokens.token_at mode at (drop at text) ≡ Tokens.bracket_at at (drop (suc at) text) (letter_ahead text at)
    at_bracket e = rw (here text at o.inside, o.class, e)

    pub at_sign : (get_or text at 0 ≡ 39 → ⊥) → (get_or text at 0 ≡ 60 → ⊥)
        → Tokens.token_at mode at (drop at text) ≡ Tokens.lexed (Tokens.sign (get_or text at 0)) at (suc at) (drop (suc at) text)
    at_sign q b = rw (here text at o.inside, o.class, ne_eqb (get_or text at 0) 39 q, ne_eqb (get_or text at 0) 60 b)

-- the first token from a place on, by what is passed before it
module _ (text : Bytes) (mode : Tokens.Mode) (from : ℕ) where
  pub lex-past : {s : Tokens.Skipped} → Tokens.skip Tokens.between from (drop from text) ≡ s → Tokens.lex mode from (drop from text) ≡
      Tokens.token_past mode s
  unfolding Tokens.lex
  lex-past e = rw e
