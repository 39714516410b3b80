-- A listed string is read back as its characters, whatever they are: what the listing keeps of a string is what the reader has to know.
use Prim.Native.Nat.{ℕ, suc, ◌+◌, ◌-◌, ◌*◌, ◌/◌, ◌%◌, ◌<◌}
use native.Mathlib.Omega.{arith}
use mathlib.Core.Path.{◌≡◌, refl, sym, ap, ◌∙◌}
use mathlib.Core.Bool.{Bool, true, false}
use mathlib.Core.List.{[], ◌∷◌, ◌++◌, append_assoc, append-nil}
use borrow.Author.Tests.{ltb-true, lt-ltb, le-leb, eqb-true, ne_eqb}
use lib.Dec.{ltb, eqb}
use Rattle.meaning.specs.Choice.{Bytes, pick, both, either, every}
use Rattle.meaning.specs.Classes.{in_class, digit}
use Rattle.meaning.specs.Allowed.{is_byte}
use Rattle.meaning.specs.Tokens.{inside, quoted, Quoting, plain, escaped, coded, goes_on, plain_turn, turn, closed, quotation, quoted_at, skip, lex}
use Rattle.meaning.specs.Listing.{Quoted, unquoted, in_string, after_code, is_after_code, close_quote, decimal, is_escaped, is_coded, character_text}
use Rattle.meaning.specs.Listing.{after_character, quoted_character}
use Rattle.meaning_accepting.proofs.Reading.Basics.{both_left, both_right, impossible}
use Rattle.meaning_accepting.proofs.Reading.Lists.{either-left-false, either-right-false}
use Rattle.meaning_accepting.proofs.RoundTrip.Remaining.{remaining-token}
use Rattle.meaning_accepting.proofs.RoundTrip.Words.{Begins, after-blank}

-- reading a string goes on from one state and these bytes to another and the rest
record Goes (state : Quoting) (characters : Bytes) (at : ℕ) (bytes : Bytes) (state' : Quoting) (characters' rest : Bytes) : Type 0 where
  place : ℕ
  same : quotation state characters at bytes ≡ quotation state' characters' place rest

goes_on_lem : {state state' : Quoting} {characters characters' : Bytes} (at b : ℕ) (rest : Bytes) →
    turn state characters b ≡ goes_on state' characters' →
    Goes state characters at (b ∷ rest) state' characters' rest
unfolding quotation
goes_on_lem at b rest e = record { place = suc at; same = rw e }

goes_then : {state state' state'' : Quoting} {characters characters' characters'' : Bytes} {at : ℕ} {bytes bytes' bytes'' : Bytes} →
    Goes state characters at bytes state' characters' bytes' →
    ((at' : ℕ) → Goes state' characters' at' bytes' state'' characters'' bytes'') →
    Goes state characters at bytes state'' characters'' bytes''
goes_then first next = record { place = (next first.place).place; same = first.same ∙ (next first.place).same }

-- CODES

digit-byte : (d : ℕ) → d < 10 → in_class digit (48 + d) ≡ true
digit-byte d p = rw (le-leb 48 (48 + d) (omega arith), le-leb (48 + d) 57 (omega arith))

digit_value : (d : ℕ) → 48 + d - 48 ≡ d
digit_value d = omega arith

first-digit : (d : ℕ) (characters : Bytes) → d < 10 → turn escaped characters (48 + d) ≡ goes_on (coded d) characters
first-digit d characters p =
    rw (
      ne_eqb (48 + d) 39 (λ e. omega arith),
      ne_eqb (48 + d) 34 (λ e. omega arith),
      ne_eqb (48 + d) 92 (λ e. omega arith),
      ne_eqb (48 + d) 110 (λ e. omega arith),
      ne_eqb (48 + d) 116 (λ e. omega arith),
      ne_eqb (48 + d) 10 (λ e. omega arith),
      digit-byte d p,
      digit_value d,
      lt-ltb d 256 (omega arith),
    )

later-digit : (code d : ℕ) (characters : Bytes) → d < 10 → code * 10 + d < 256 →
    turn (coded code) characters (48 + d) ≡ goes_on (coded (code * 10 + d)) characters
later-digit code d characters p q = rw (digit-byte d p, digit_value d, lt-ltb (code * 10 + d) 256 q)

goes_to : {state : Quoting} {characters bytes rest : Bytes} {at code c : ℕ} → code ≡ c →
    Goes state characters at bytes (coded code) characters rest → Goes state characters at bytes (coded c) characters rest
goes_to e g = rw (← e) g

decimal-goes : (c : ℕ) (characters : Bytes) (at : ℕ) (rest : Bytes) → c < 256 →
    Goes escaped characters at (decimal c ++ rest) (coded c) characters rest
decimal-goes c characters at rest byte = go (ltb c 10) (ltb c 100) refl refl
  where
    go : (one two : Bool) → ltb c 10 ≡ one → ltb c 100 ≡ two →
        Goes escaped characters at
        (pick one ((48 + c) ∷ []) (pick two ((48 + c / 10) ∷ (48 + c % 10) ∷ []) ((48 + c / 100) ∷ (48 + c / 10 % 10) ∷ (48 + c % 10) ∷ [])) ++ rest)
        (coded c)
        characters
        rest
    go true two p q = goes_on_lem at (48 + c) rest (first-digit c characters (ltb-true c 10 p))
    go false true p q =
        let few = ltb-true c 100 q in
        goes_to (omega arith)
        (goes_then (goes_on_lem at (48 + c / 10) _ (first-digit (c / 10) characters (omega arith)))
        (λ at'. goes_on_lem at' (48 + c % 10) rest (later-digit (c / 10) (c % 10) characters (omega arith) (omega arith))))
    go false false p q =
        goes_to (omega arith)
        (goes_then (goes_on_lem at (48 + c / 100) _ (first-digit (c / 100) characters (omega arith)))
        (λ at'. goes_then (goes_on_lem at' (48 + c / 10 % 10) _ (later-digit (c / 100) (c / 10 % 10) characters (omega arith) (omega arith)))
        (λ at''. goes_on_lem at'' (48 + c % 10) rest (later-digit (c / 100 * 10 + c / 10 % 10) (c % 10) characters (omega arith) (omega arith)))))

-- CHARACTERS

-- what the listing knows inside a string, what the reader has taken so far, and the characters that both stand for: a code may still go on
pub data Matches : Quoted → Quoting → Bytes → Bytes → Type 0 where
  matches_plain : {characters : Bytes} → Matches in_string plain characters characters
  matches_code : {characters : Bytes} {code : ℕ} → Matches after_code (coded code) characters (characters ++ code ∷ [])

-- a byte that no code goes on with is read as it is right after the characters
matched-turn : {state : Quoted} {quoting : Quoting} {characters meant : Bytes} (b : ℕ) → Matches state quoting characters meant →
    both (is_after_code state) (in_class digit b) ≡ false → turn quoting characters b ≡ plain_turn meant b
matched-turn b matches_plain e = refl
matched-turn b matches_code e = rw e

-- a character's text leads from matching states to matching states
record Read (state : Quoted) (quoting : Quoting) (characters : Bytes) (at : ℕ) (bytes meant rest : Bytes) : Type 0 where
  quoting' : Quoting
  characters' : Bytes
  goes : Goes quoting characters at bytes quoting' characters' rest
  matches : Matches state quoting' characters' meant

-- no code goes on with a backslash or a quote
not_digit : (state : Quoted) → both (is_after_code state) false ≡ false
not_digit unquoted = refl
not_digit in_string = refl
not_digit after_code = refl

either_true : (a : Bool) → either a true ≡ true
either_true true = refl
either_true false = refl

-- a bare byte is no digit right after a code
bare-digit : (state : Quoted) (c : ℕ) → is_coded state c ≡ false → eqb c 9 ≡ false → eqb c 10 ≡ false →
    both (is_after_code state) (in_class digit c) ≡ false
bare-digit state c k t n = go (both (is_after_code state) (in_class digit c)) refl
  where
    go : (d : Bool) → both (is_after_code state) (in_class digit c) ≡ d → both (is_after_code state) (in_class digit c) ≡ false
    go true e = impossible (sym k ∙ rw (t, n, e, either_true))
    go false e = e

bare-turn : (c : ℕ) (meant : Bytes) → is_escaped c ≡ false → plain_turn meant c ≡ goes_on plain (meant ++ c ∷ [])
bare-turn c meant e =
    let e₁ = either-right-false (eqb c 39) (either (eqb c 34) (eqb c 92)) e in
    rw (
      either-left-false (eqb c 39) (either (eqb c 34) (eqb c 92)) e,
      either-left-false (eqb c 34) (eqb c 92) e₁,
      either-right-false (eqb c 34) (eqb c 92) e₁,
    )

module _ {state : Quoted} {quoting : Quoting} {characters meant : Bytes} (m : Matches state quoting characters meant) (c at : ℕ) (rest : Bytes) where
  -- a backslash, and then an escape that goes on plainly with the character
  escape-read : (b : ℕ) → turn escaped meant b ≡ goes_on plain (meant ++ c ∷ []) →
      Read in_string quoting characters at (92 ∷ b ∷ rest) (meant ++ c ∷ []) rest
  escape-read b e =
      record {
        quoting' = plain;
        characters' = meant ++ c ∷ [];
        goes = goes_then (goes_on_lem at 92 (b ∷ rest) (matched-turn 92 m (not_digit state))) (λ at'. goes_on_lem at' b rest e);
        matches = matches_plain;
      }

  character-cases : (k e t n : Bool) → is_coded state c ≡ k → is_escaped c ≡ e → eqb c 9 ≡ t → eqb c 10 ≡ n → c < 256 →
      Read (pick k after_code in_string) quoting characters at
      (pick k (92 ∷ decimal c) (pick e (92 ∷ c ∷ []) (pick t (92 ∷ 116 ∷ []) (pick n (92 ∷ 110 ∷ []) (c ∷ [])))) ++ rest)
      (meant ++ c ∷ [])
      rest
  character-cases true e t n k-is e-is t-is n-is byte =
      record {
        quoting' = coded c;
        characters' = meant;
        goes =
            goes_then (goes_on_lem at 92 (decimal c ++ rest) (matched-turn 92 m (not_digit state)))
            (λ at'. decimal-goes c meant at' rest byte);
        matches = matches_code;
      }
  character-cases false true t n k-is e-is t-is n-is byte = escape-read c (rw e-is)
  character-cases false false true n k-is e-is t-is n-is byte = escape-read 116 (rw (eqb-true c 9 t-is))
  character-cases false false false true k-is e-is t-is n-is byte = escape-read 110 (rw (eqb-true c 10 n-is))
  character-cases false false false false k-is e-is t-is n-is byte =
      record {
        quoting' = plain;
        characters' = meant ++ c ∷ [];
        goes = goes_on_lem at c rest (matched-turn c m (bare-digit state c k-is t-is n-is) ∙ bare-turn c meant e-is);
        matches = matches_plain;
      }

  character-read : is_byte c ≡ true → Read (after_character state c) quoting characters at (character_text state c ++ rest) (meant ++ c ∷ []) rest
  character-read byte = character-cases (is_coded state c) (is_escaped c) (eqb c 9) (eqb c 10) refl refl refl refl (ltb-true c 256 byte)

-- STRINGS

-- the text of neighbouring characters, from inside a string or before it, to its closing quote
unfoldable pub joined : Quoted → Bytes → Bytes
joined state [] = close_quote state
joined state (c ∷ text) = quoted_character state c ++ joined (after_character state c) text

-- a string is closed with these characters, and then the rest
record Closes (state : Quoting) (characters : Bytes) (at : ℕ) (bytes meant rest : Bytes) : Type 0 where
  past : ℕ
  same : quotation state characters at bytes ≡ closed meant past rest

closing-read : {state : Quoted} {quoting : Quoting} {characters meant : Bytes} → Matches state quoting characters meant → (at : ℕ) (rest : Bytes) →
    Closes quoting characters at (close_quote state ++ rest) meant rest
unfolding quotation
closing-read matches_plain at rest = record { past = suc at; same = refl }
closing-read matches_code at rest = record { past = suc at; same = refl }

inside-text : {state : Quoted} {quoting : Quoting} {characters meant : Bytes} (c : ℕ) (text rest : Bytes) → Matches state quoting characters meant →
    joined state (c ∷ text) ++ rest ≡ character_text state c ++ (joined (after_character state c) text ++ rest)
unfolding joined
inside-text c text rest matches_plain = append_assoc (character_text in_string c) (joined (after_character in_string c) text) rest
inside-text c text rest matches_code = append_assoc (character_text after_code c) (joined (after_character after_code c) text) rest

joined-read : {state : Quoted} {quoting : Quoting} {characters meant : Bytes} → Matches state quoting characters meant →
    (text : Bytes) → every is_byte text ≡ true → (at : ℕ) (rest : Bytes) →
    Closes quoting characters at (joined state text ++ rest) (meant ++ text) rest
unfolding joined every
joined-read {meant = meant} m [] bytes at rest = rw (append-nil meant) (closing-read m at rest)
joined-read {state = state} {meant = meant} m (c ∷ text) bytes at rest =
    let first = character-read m c at (joined (after_character state c) text ++ rest) (both_left (is_byte c) _ bytes) in
    let later = joined-read {state = after_character state c} first.matches text (both_right (is_byte c) _ bytes) first.goes.place rest in
    rw (inside-text c text rest m, ← append_assoc meant (c ∷ []) text)
    record { past = later.past; same = first.goes.same ∙ later.same }

-- a string of at least one character is one token
pub string-begins : (at c : ℕ) (text rest : Bytes) → every is_byte (c ∷ text) ≡ true →
    Begins inside at (joined unquoted (c ∷ text) ++ rest) (quoted (c ∷ text)) inside rest
unfolding joined lex skip
string-begins at c text rest bytes =
    let read = joined-read (matches_plain {characters = []}) (c ∷ text) bytes (suc (suc at)) rest in
    after-blank at 32 refl
    record {
      place = suc at;
      past = read.past;
      tokens =
          remaining-token inside (suc at) (39 ∷ (joined in_string (c ∷ text) ++ rest)) (quoted (c ∷ text)) (suc at) read.past rest
          (ap (quoted_at (suc at)) read.same)
          refl;
    }
