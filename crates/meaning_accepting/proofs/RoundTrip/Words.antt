-- The tokens of pieces of text whose end is seen at the next byte: blanks, signs, names and variables.
use Prim.Native.Nat.{ℕ, suc, ◌+◌, ◌≤◌}
use native.Mathlib.Omega.{arith}
use mathlib.Core.Path.{◌≡◌, refl, ap, ◌∙◌}
use mathlib.Core.Bool.{Bool, true, false, not}
use mathlib.Core.List.{[], ◌∷◌, ◌++◌, append_assoc, append-nil}
use borrow.Author.Tests.{leb-true, ne_eqb, not-true}
use lib.Dec.{leb, eqb}
use lib.ListN.{length}
use Rattle.meaning.specs.Choice.{Bytes, Name, both, either, every}
use Rattle.meaning.specs.Classes.{in_class, alphabetic, is_blank_byte}
use Rattle.meaning.specs.Allowed.{word_byte, name_byte, spelled_name}
use Rattle.meaning.specs.Tokens.{Mode, inside, naming, Token, function_name, word, sign, ahead, run, name_token, word_token, word_at, skip, lex}
use Rattle.meaning.specs.Tokens.{mode_after, after_name}
use Rattle.meaning.specs.Grammar.{standing}
use Rattle.meaning_accepting.proofs.Reading.Basics.{both_left, both_right, impossible}
use Rattle.meaning_accepting.proofs.RoundTrip.Remaining.{remaining, remaining-token, remaining-past}

-- from a place on, the bytes begin with a token, perhaps after a blank, and then the rest
pub record Begins (mode : Mode) (at : ℕ) (bytes : Bytes) (token : Token) (after : Mode) (rest : Bytes) : Type 0 where
  pub place : ℕ
  pub past : ℕ
  pub tokens : remaining mode at bytes ≡ standing token place past ∷ remaining after past rest

-- BLANKS AND SIGNS

pub blank-passed : (mode : Mode) (at b : ℕ) (rest : Bytes) → is_blank_byte b ≡ true → remaining mode at (b ∷ rest) ≡ remaining mode (suc at) rest
unfolding lex skip
blank-passed mode at b rest blank = remaining-past mode at (suc at) b rest (rw blank)

pub after-blank : {mode after : Mode} {bytes rest : Bytes} {token : Token} (at b : ℕ) → is_blank_byte b ≡ true →
    Begins mode (suc at) bytes token after rest → Begins mode at (b ∷ bytes) token after rest
after-blank {mode} {bytes = bytes} at b blank next =
    record { place = next.place; past = next.past; tokens = blank-passed mode at b bytes blank ∙ next.tokens }

-- a byte that is a token, whatever comes after it
abbrev stands_alone : ℕ → Bool
stands_alone b = both (not (is_blank_byte b)) (both (not (eqb b 47)) (both (not (in_class alphabetic b)) (both (not (eqb b 39)) (not (eqb b 60)))))

pub sign-begins : (mode : Mode) (at b : ℕ) (rest : Bytes) → stands_alone b ≡ true → Begins mode at (b ∷ rest) (sign b) (mode_after mode (sign b)) rest
unfolding lex skip
sign-begins mode at b rest alone =
    let alone₁ = both_right (not (is_blank_byte b)) _ alone in
    let alone₂ = both_right (not (eqb b 47)) _ alone₁ in
    let alone₃ = both_right (not (in_class alphabetic b)) _ alone₂ in
    let blank = not-true (is_blank_byte b) (both_left (not (is_blank_byte b)) _ alone) in
    let slash = not-true (eqb b 47) (both_left (not (eqb b 47)) _ alone₁) in
    let alphabet = not-true (in_class alphabetic b) (both_left (not (in_class alphabetic b)) _ alone₂) in
    let quote = not-true (eqb b 39) (both_left (not (eqb b 39)) _ alone₃) in
    let bracket = not-true (eqb b 60) (both_right (not (eqb b 39)) _ alone₃) in
    record {
      place = at;
      past = suc at;
      tokens = remaining-token mode at (b ∷ rest) (sign b) at (suc at) rest (rw (blank, slash, alphabet, quote, bracket)) refl;
    }

-- `<` with a name right after it
pub call-begins : (mode : Mode) (at : ℕ) (n : Name) (rest : Bytes) → spelled_name n ≡ true →
    Begins mode at (60 ∷ (n ++ rest)) (sign 60) naming (n ++ rest)
unfolding lex skip
call-begins mode at [] rest spelled = impossible spelled
call-begins mode at (b ∷ n) rest spelled =
    record {
      place = at;
      past = suc at;
      tokens =
          remaining-token mode at (60 ∷ b ∷ (n ++ rest)) (sign 60) at (suc at) (b ∷ (n ++ rest))
          (rw (both_left (in_class alphabetic b) _ spelled)) refl;
    }

-- NAMES AND VARIABLES

-- no word goes on with these bytes
abbrev pub Parted : Bytes → Type 0
Parted bytes = ahead name_byte bytes ≡ false

pub parted-word : (bytes : Bytes) → Parted bytes → ahead word_byte bytes ≡ false
parted-word [] p = refl
parted-word (b ∷ bytes) p = go (word_byte b) p
  where
    go : (w : Bool) → either w (either (eqb b 95) (eqb b 45)) ≡ false → w ≡ false
    go true e = e
    go false e = refl

run_ends : (fits : ℕ → Bool) (taken : Bytes) (at : ℕ) (bytes : Bytes) → ahead fits bytes ≡ false →
    run fits taken at bytes ≡ record { taken = taken; past = at; rest = bytes }
unfolding run
run_ends fits taken at [] e = refl
run_ends fits taken at (b ∷ bytes) e = rw e

-- the bytes that fit are taken, up to one that doesn't
run-takes : (fits : ℕ → Bool) (taken : Bytes) (at : ℕ) (bytes rest : Bytes) → every fits bytes ≡ true → ahead fits rest ≡ false →
    run fits taken at (bytes ++ rest) ≡ record { taken = taken ++ bytes; past = at + length bytes; rest = rest }
unfolding run every
run-takes fits taken at [] rest all e =
    let same : at ≡ at + 0 = omega arith in
    rw (append-nil taken, ← same) (run_ends fits taken at rest e)
run-takes fits taken at (b ∷ bytes) rest all e =
    let same : suc at + length bytes ≡ at + suc (length bytes) = omega arith in
    rw (both_left (fits b) _ all, ← same, ← append_assoc taken (b ∷ []) bytes)
    (run-takes fits (taken ++ b ∷ []) (suc at) bytes rest (both_right (fits b) _ all) e)

alphabetic-above : (b : ℕ) → in_class alphabetic b ≡ true → 65 ≤ b
alphabetic-above b e = go (leb 65 b) (leb b 90) (leb 97 b) (leb b 122) refl refl e
  where
    go : (l h l' h' : Bool) → leb 65 b ≡ l → leb 97 b ≡ l' → either (both l h) (both l' h') ≡ true → 65 ≤ b
    go true h l' h' p q e = leb-true 65 b p
    go false h true h' p q e = let r = leb-true 97 b q in omega arith
    go false h false h' p q e = impossible e

-- a letter is no blank and begins no comment
letter-stays : (mode : Mode) (at b : ℕ) (rest : Bytes) → in_class alphabetic b ≡ true →
    lex mode at (b ∷ rest) ≡ word_at mode at (b ∷ rest)
unfolding lex skip
letter-stays mode at b rest alphabet =
    let above = alphabetic-above b alphabet in
    rw (
      ne_eqb b 32 (λ e. omega arith),
      ne_eqb b 9 (λ e. omega arith),
      ne_eqb b 10 (λ e. omega arith),
      ne_eqb b 13 (λ e. omega arith),
      ne_eqb b 47 (λ e. omega arith),
      alphabet,
    )

-- a mode that reads words by the rule of function names
abbrev pub ReadsNames : Mode → Type 0
ReadsNames mode = (at : ℕ) (bytes : Bytes) → word_at mode at bytes ≡ name_token at (run name_byte [] at bytes)

pub name-begins : (mode : Mode) → ReadsNames mode → (at : ℕ) (n : Name) (rest : Bytes) → spelled_name n ≡ true → Parted rest →
    Begins mode at (n ++ rest) (function_name n) (after_name mode) rest
unfolding every
name-begins mode names at [] rest spelled parted = impossible spelled
name-begins mode names at (b ∷ n) rest spelled parted =
    let alphabet = both_left (in_class alphabetic b) _ spelled in
    let others = both_left (every name_byte n) _ (both_right (in_class alphabetic b) _ spelled) in
    record {
      place = at;
      past = at + suc (length n);
      tokens =
          remaining-token mode at (b ∷ (n ++ rest)) (function_name (b ∷ n)) at (at + suc (length n)) rest
          (letter-stays mode at b (n ++ rest) alphabet
          ∙ (names at (b ∷ (n ++ rest)) ∙ ap (name_token at) (run-takes name_byte [] at (b ∷ n) rest (rw (alphabet, others)) parted)))
          refl;
    }

-- s or e and an identifier, after a blank
pub variable-begins : (at v : ℕ) (x rest : Bytes) → in_class alphabetic v ≡ true → every word_byte x ≡ true → Parted rest →
    Begins inside at (32 ∷ v ∷ (x ++ rest)) (word (v ∷ x)) inside rest
unfolding every
variable-begins at v x rest alphabet spelled parted =
    after-blank at 32 refl
    record {
      place = suc at;
      past = suc at + suc (length x);
      tokens =
          remaining-token inside (suc at) (v ∷ (x ++ rest)) (word (v ∷ x)) (suc at) (suc at + suc (length x)) rest
          (letter-stays inside (suc at) v (x ++ rest) alphabet
          ∙ ap (word_token (suc at)) (run-takes word_byte [] (suc at) (v ∷ x) rest (rw (alphabet, spelled)) (parted-word rest parted)))
          refl;
    }
