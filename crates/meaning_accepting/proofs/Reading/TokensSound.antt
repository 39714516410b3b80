-- The tokens of a text of bytes are sound: what lexing makes is spelled as it must be.
use Prim.Native.Nat.{ℕ, zero, suc, ◌+◌, ◌*◌}
use mathlib.Core.Path.{◌≡◌, refl, sym, ◌∙◌}
use mathlib.Core.Bool.{Bool, true, false}
use mathlib.Core.List.{List, [], ◌∷◌, ◌++◌, append_assoc, append-nil}
use mathlib.Core.Option.{Option, none, some}
use lib.Dec.{ltb, eqb}
use Rattle.meaning.specs.Choice.{Bytes, pick, both, either, every}
use Rattle.meaning.specs.Classes.{in_class, digit, alphabetic}
use Rattle.meaning.specs.Allowed.{is_byte, word_byte, name_byte}
use Rattle.meaning.specs.Tokens.{Mode, outside, inside, naming, Token, function_name, word, quoted, sign, text_end, malformed, Placed, Lexed, ahead}
use Rattle.meaning.specs.Tokens.{Gap, between, opening, commented, starred, gap_after, Skipped, found, unclosed, skipped_end, skip_on, skip, Run, run}
use Rattle.meaning.specs.Tokens.{name_token, word_token, word_at, Quoting, plain, escaped, coded, Turn, goes_on, closes, breaks, plain_turn}
use Rattle.meaning.specs.Tokens.{code_turn}
use Rattle.meaning.specs.Tokens.{escaped_turn, digit_value, turn, Quotation, closed, broken, quote_on, quotation, quoted_at, bracket_at, token_at}
use Rattle.meaning.specs.Tokens.{token_past, lex, mode_after, is_last_token, tokens_from}
use Rattle.meaning.proofs.Laws.Choosing.{of_either}
use Rattle.meaning_accepting.proofs.Reading.Basics.{both_left, both_right, both_true}
use Rattle.meaning_accepting.proofs.Reading.Lists.{every_append}
use Rattle.meaning_accepting.proofs.Reading.Sound.{name_spelling, sound_token, ends_text, sound_tokens}

-- what passes either way passes
pick-sound : {A : Type 0} (test : A → Bool) (b : Bool) (x y : A) → test x ≡ true → test y ≡ true → test (pick b x y) ≡ true
pick-sound test = of_either (λ z. test z ≡ true)

every-after : {A : Type 0} (f : A → Bool) (xs : List A) (x : A) → every f xs ≡ true → f x ≡ true → every f (xs ++ x ∷ []) ≡ true
unfolding every
every-after f xs x p q = rw (every_append f xs (x ∷ [])) (both_true p (both_true q refl))

-- BLANKS AND COMMENTS

abbrev sound_skipped : Skipped → Bool
sound_skipped (found at rest) = every is_byte rest
sound_skipped (unclosed slash at) = true

skipped-end-sound : (gap : Gap) (at : ℕ) → sound_skipped (skipped_end gap at) ≡ true
unfolding every
skipped-end-sound between at = refl
skipped-end-sound (opening slash) at = refl
skipped-end-sound (commented slash) at = refl
skipped-end-sound (starred slash) at = refl

skip-on-sound : (o : Option Gap) (next : Gap → Skipped) (stays : Skipped) → ((gap : Gap) → sound_skipped (next gap) ≡ true) →
    sound_skipped stays ≡ true
    → sound_skipped (skip_on o next stays) ≡ true
skip-on-sound none next stays p q = q
skip-on-sound (some gap) next stays p q = p gap

skip-sound : (gap : Gap) (at : ℕ) (bytes : Bytes) → every is_byte bytes ≡ true → sound_skipped (skip gap at bytes) ≡ true
unfolding skip every
skip-sound gap at [] s = skipped-end-sound gap at
skip-sound gap at (b ∷ rest) s =
    skip-on-sound (gap_after gap at b rest) (λ next. skip next (suc at) rest) (found at (b ∷ rest))
    (λ next. skip-sound next (suc at) rest (both_right (is_byte b) (every is_byte rest) s)) s

-- WORDS

-- what a run takes after what it has, and what it leaves
record RunTakes (fits : ℕ → Bool) (taken : Bytes) (r : Run) : Type 0 where
  more : Bytes
  whole : r.taken ≡ taken ++ more
  fitting : every fits more ≡ true
  rest-sound : every is_byte r.rest ≡ true

module _ (fits : ℕ → Bool) where
  run-stops : (taken : Bytes) (at : ℕ) (bytes : Bytes) → every is_byte bytes ≡ true →
      RunTakes fits taken (record { taken = taken; past = at; rest = bytes })
  unfolding every
  run-stops taken at bytes s = record { more = []; whole = sym (append-nil taken); fitting = refl; rest-sound = s }

  run_step : (taken : Bytes) (at b : ℕ) (rest : Bytes) (c : Bool) → fits b ≡ c → (longer : Run) → RunTakes fits (taken ++ b ∷ []) longer
      → every is_byte (b ∷ rest) ≡ true → RunTakes fits taken (pick c longer (record { taken = taken; past = at; rest = b ∷ rest }))
  unfolding every
  run_step taken at b rest true p longer r s =
      record {
        more = b ∷ r.more;
        whole = r.whole ∙ append_assoc taken (b ∷ []) r.more;
        fitting = both_true p r.fitting;
        rest-sound = r.rest-sound;
      }
  run_step taken at b rest false p longer r s = run-stops taken at (b ∷ rest) s

  run-takes : (taken : Bytes) (at : ℕ) (bytes : Bytes) → every is_byte bytes ≡ true → RunTakes fits taken (run fits taken at bytes)
  unfolding run every
  run-takes taken at [] s = run-stops taken at [] refl
  run-takes taken at (b ∷ rest) s =
      run_step taken at b rest (fits b) refl (run fits (taken ++ b ∷ []) (suc at) rest)
      (run-takes (taken ++ b ∷ []) (suc at) rest (both_right (is_byte b) (every is_byte rest) s)) s

  -- a run that begins with a fitting byte takes it
  pub run-first : (at b : ℕ) (rest : Bytes) → fits b ≡ true → run fits [] at (b ∷ rest) ≡ run fits (b ∷ []) (suc at) rest
  unfolding run
  run-first at b rest p = rw p

abbrev sound_lexed : Lexed → Bool
sound_lexed l = both (sound_token l.first.token) (every is_byte l.rest)

-- a run from a fitting byte on is spelled so, and sound bytes are left
run-spelled : (fits : ℕ → Bool) (spelling : Bytes → Bool) (at b : ℕ) (rest : Bytes) → fits b ≡ true → every is_byte (b ∷ rest) ≡ true
    → ((more : Bytes) → every fits more ≡ true → spelling (b ∷ more) ≡ true)
    → both (spelling (run fits [] at (b ∷ rest)).taken) (every is_byte (run fits [] at (b ∷ rest)).rest) ≡ true
unfolding every
run-spelled fits spelling at b rest f s spelled =
    let r = run-takes fits (b ∷ []) (suc at) rest (both_right (is_byte b) (every is_byte rest) s) in
    let whole : spelling (run fits (b ∷ []) (suc at) rest).taken ≡ true = rw r.whole (spelled r.more r.fitting) in
    rw (run-first fits at b rest f) (both_true whole r.rest-sound)

-- what is read from a letter on
abbrev SoundAt : (ℕ → Bytes → Lexed) → Type 0
SoundAt lexed_at = (at b : ℕ) (rest : Bytes) → in_class alphabetic b ≡ true → every is_byte (b ∷ rest) ≡ true →
    sound_lexed (lexed_at at (b ∷ rest)) ≡ true

name-at-sound : SoundAt (λ at bytes. name_token at (run name_byte [] at bytes))
name-at-sound at b rest a s = run-spelled name_byte name_spelling at b rest (rw a) s (λ more f. both_true a f)

word-at-sound : SoundAt (λ at bytes. word_token at (run word_byte [] at bytes))
unfolding every
word-at-sound at b rest a s =
    let first : word_byte b ≡ true = rw a in
    run-spelled word_byte (every word_byte) at b rest first s (λ more f. both_true first f)

letter-sound : (mode : Mode) → SoundAt (word_at mode)
letter-sound outside = name-at-sound
letter-sound inside = word-at-sound
letter-sound naming = name-at-sound

-- STRINGS

abbrev sound_quoting : Quoting → Bool
sound_quoting plain = true
sound_quoting escaped = true
sound_quoting (coded code) = is_byte code

abbrev sound_turn : Turn → Bool
sound_turn (goes_on state text) = both (sound_quoting state) (every is_byte text)
sound_turn (closes text) = every is_byte text
sound_turn breaks = true

plain-turn-sound : (text : Bytes) (b : ℕ) → every is_byte text ≡ true → is_byte b ≡ true → sound_turn (plain_turn text b) ≡ true
plain-turn-sound text b s i =
    pick-sound sound_turn (eqb b 39) (closes text) _ s
    (pick-sound sound_turn (eqb b 34) breaks _ refl
    (pick-sound sound_turn (eqb b 92) (goes_on escaped text) _ s (every-after is_byte text b s i)))

code-turn-sound : (c : Bool) (code : ℕ) (text : Bytes) → ltb code 256 ≡ c → every is_byte text ≡ true
    → sound_turn (pick c (goes_on (coded code) text) breaks) ≡ true
code-turn-sound true code text p s = both_true p s
code-turn-sound false code text p s = refl

escaped-turn-sound : (text : Bytes) (b : ℕ) → every is_byte text ≡ true → is_byte b ≡ true → sound_turn (escaped_turn text b) ≡ true
escaped-turn-sound text b s i =
    pick-sound sound_turn (either (eqb b 39) (either (eqb b 34) (eqb b 92))) (goes_on plain (text ++ b ∷ [])) _ (every-after is_byte text b s i)
    (pick-sound sound_turn (eqb b 110) (goes_on plain (text ++ 10 ∷ [])) _ (every-after is_byte text 10 s refl)
    (pick-sound sound_turn (eqb b 116) (goes_on plain (text ++ 9 ∷ [])) _ (every-after is_byte text 9 s refl)
    (pick-sound sound_turn (eqb b 10) (goes_on plain text) _ s
    (pick-sound sound_turn (in_class digit b) (code_turn (digit_value b) text) breaks
    (code-turn-sound (ltb (digit_value b) 256) (digit_value b) text refl s) refl))))

turn-sound : (state : Quoting) (text : Bytes) (b : ℕ) → sound_quoting state ≡ true → every is_byte text ≡ true → is_byte b ≡ true →
    sound_turn (turn state text b) ≡ true
turn-sound plain text b q s i = plain-turn-sound text b s i
turn-sound escaped text b q s i = escaped-turn-sound text b s i
turn-sound (coded code) text b q s i =
    pick-sound sound_turn (in_class digit b) (code_turn (code * 10 + digit_value b) text) (plain_turn (text ++ code ∷ []) b)
    (code-turn-sound (ltb (code * 10 + digit_value b) 256) (code * 10 + digit_value b) text refl s)
    (plain-turn-sound (text ++ code ∷ []) b (every-after is_byte text code s q) i)

abbrev sound_quotation : Quotation → Bool
sound_quotation (closed text past rest) = both (every is_byte text) (every is_byte rest)
sound_quotation (broken past rest) = every is_byte rest

quote-on-sound : (t : Turn) (next : Quoting → Bytes → Quotation) (past : ℕ) (rest : Bytes) → sound_turn t ≡ true → every is_byte rest ≡ true
    → ((state : Quoting) (text : Bytes) → sound_quoting state ≡ true → every is_byte text ≡ true → sound_quotation (next state text) ≡ true)
    → sound_quotation (quote_on t next past rest) ≡ true
quote-on-sound (goes_on state text) next past rest t s go =
    go state text (both_left (sound_quoting state) (every is_byte text) t) (both_right (sound_quoting state) (every is_byte text) t)
quote-on-sound (closes text) next past rest t s go = both_true t s
quote-on-sound breaks next past rest t s go = s

quotation-sound : (state : Quoting) (text : Bytes) (at : ℕ) (bytes : Bytes) → sound_quoting state ≡ true → every is_byte text ≡ true →
    every is_byte bytes ≡ true
    → sound_quotation (quotation state text at bytes) ≡ true
unfolding quotation every
quotation-sound state text at [] q t s = refl
quotation-sound state text at (b ∷ rest) q t s =
    quote-on-sound (turn state text b) (λ next longer. quotation next longer (suc at) rest) (suc at) rest
    (turn-sound state text b q t (both_left (is_byte b) (every is_byte rest) s))
    (both_right (is_byte b) (every is_byte rest) s)
    (λ next longer n l. quotation-sound next longer (suc at) rest n l (both_right (is_byte b) (every is_byte rest) s))

quoted-at-sound : (at : ℕ) (q : Quotation) → sound_quotation q ≡ true → sound_lexed (quoted_at at q) ≡ true
quoted-at-sound at (closed text past rest) s = s
quoted-at-sound at (broken past rest) s = s

-- TOKENS

bracket-sound : (at : ℕ) (rest : Bytes) (b : Bool) → every is_byte rest ≡ true → sound_lexed (bracket_at at rest b) ≡ true
bracket-sound at rest true s = s
bracket-sound at rest false s = s

letter-or : (mode : Mode) (at b : ℕ) (rest : Bytes) (c : Bool) (other : Lexed) → in_class alphabetic b ≡ c → every is_byte (b ∷ rest) ≡ true
    → sound_lexed other ≡ true → sound_lexed (pick c (word_at mode at (b ∷ rest)) other) ≡ true
letter-or mode at b rest true other p s o = letter-sound mode at b rest p s
letter-or mode at b rest false other p s o = o

token-at-sound : (mode : Mode) (at : ℕ) (bytes : Bytes) → every is_byte bytes ≡ true → sound_lexed (token_at mode at bytes) ≡ true
unfolding every
token-at-sound mode at [] s = refl
token-at-sound mode at (b ∷ rest) s =
    let r = both_right (is_byte b) (every is_byte rest) s in
    letter-or mode at b rest (in_class alphabetic b) _ refl s
    (pick-sound sound_lexed (eqb b 39) (quoted_at at (quotation plain [] (suc at) rest)) _
    (quoted-at-sound at (quotation plain [] (suc at) rest) (quotation-sound plain [] (suc at) rest refl refl r))
    (pick-sound sound_lexed (eqb b 60) (bracket_at at rest (ahead (in_class alphabetic) rest)) _
    (bracket-sound at rest (ahead (in_class alphabetic) rest) r) r))

token-past-sound : (mode : Mode) (s : Skipped) → sound_skipped s ≡ true → sound_lexed (token_past mode s) ≡ true
unfolding every
token-past-sound mode (found at bytes) s = token-at-sound mode at bytes s
token-past-sound mode (unclosed slash at) s = refl

pub lex-sound : (mode : Mode) (at : ℕ) (bytes : Bytes) → every is_byte bytes ≡ true → sound_lexed (lex mode at bytes) ≡ true
unfolding lex
lex-sound mode at bytes s = token-past-sound mode (skip between at bytes) (skip-sound between at bytes s)

nothing-after : (token : Token) (later : List Placed) → ends_text token (pick (is_last_token token) [] later) ≡ true
nothing-after (function_name n) later = refl
nothing-after (word w) later = refl
nothing-after (quoted text) later = refl
nothing-after (sign b) later = refl
nothing-after text_end later = refl
nothing-after malformed later = refl

pub tokens-sound : (bound : ℕ) (mode : Mode) (at : ℕ) (bytes : Bytes) → every is_byte bytes ≡ true → sound_tokens (tokens_from bound mode at bytes) ≡
    true
unfolding tokens_from sound_tokens
tokens-sound zero mode at bytes s = refl
tokens-sound (suc bound) mode at bytes s =
    let l = lex mode at bytes in
    let k = lex-sound mode at bytes s in
    let later = tokens_from bound (mode_after mode l.first.token) l.first.past l.rest in
    both_true
    (both_true (both_left (sound_token l.first.token) (every is_byte l.rest) k) (nothing-after l.first.token later))
    (pick-sound sound_tokens (is_last_token l.first.token) [] later refl
    (tokens-sound bound (mode_after mode l.first.token) l.first.past l.rest
    (both_right (sound_token l.first.token) (every is_byte l.rest) k)))
