-- No byte is lost in lexing, and the end of the text is a token whose place is the text's length.
use Prim.Native.Nat.{ℕ, zero, suc, ◌+◌}
use mathlib.Core.Path.{◌≡◌, refl, sym, ◌∙◌, subst}
use mathlib.Core.Bool.{Bool, true, false}
use mathlib.Core.List.{List, [], ◌∷◌, ◌++◌}
use mathlib.Core.Option.{Option, none, some}
use native.Mathlib.Omega.{arith}
use lib.Dec.{eqb}
use lib.ListN.{length}
use Rattle.meaning.specs.Choice.{Bytes, pick}
use Rattle.meaning.specs.Classes.{in_class, alphabetic}
use Rattle.meaning.specs.Allowed.{word_byte, name_byte}
use Rattle.meaning.specs.Tokens.{Mode, outside, inside, naming, quoted, sign, malformed, Placed, Lexed, lexed, ahead, Gap, between, opening}
use Rattle.meaning.specs.Tokens.{commented, starred, gap_after, Skipped, found, skipped_end, skip_on, skip, run, word_at, Quoting, plain, Turn}
use Rattle.meaning.specs.Tokens.{goes_on}
use Rattle.meaning.specs.Tokens.{closes, breaks, turn, Quotation, quote_on, quotation, quoted_at, bracket_at, token_at, token_past, lex, mode_after}
use Rattle.meaning.specs.Tokens.{tokens_from, tokens}
use Rattle.meaning.specs.Reading.{is_text_end}
use Rattle.meaning.proofs.Laws.Choosing.{of_either}
use Rattle.meaning_accepting.proofs.Reading.Basics.{impossible}
use Rattle.meaning_accepting.proofs.Reading.Local.{not-nothing, tokens-later}

-- the place after a token and the bytes after it make the whole; the end of the text stands at its end
pub record Whole (total : ℕ) (l : Lexed) : Type 0 where
  pub kept : l.first.past + length l.rest ≡ total
  pub last-place : is_text_end l.first.token ≡ true → l.first.place ≡ total

-- a token that isn't the end of the text
inner : (total : ℕ) (l : Lexed) → l.first.past + length l.rest ≡ total → is_text_end l.first.token ≡ false → Whole total l
inner total l k n = record { kept = k; last-place = λ e. impossible (sym n ∙ e) }

-- WORDS

run-kept : (fits : ℕ → Bool) (taken : Bytes) (at : ℕ) (bytes : Bytes) → (run fits taken at bytes).past + length (run fits taken at bytes).rest ≡
    at + length bytes
unfolding run
run-kept fits taken at [] = refl
run-kept fits taken at (b ∷ rest) = go (fits b) (run-kept fits (taken ++ b ∷ []) (suc at) rest)
  where
    go : (c : Bool) → (run fits (taken ++ b ∷ []) (suc at) rest).past + length (run fits (taken ++ b ∷ []) (suc at) rest).rest ≡ suc at + length rest
        → (pick c (run fits (taken ++ b ∷ []) (suc at) rest) (record { taken = taken; past = at; rest = b ∷ rest })).past
        + length (pick c (run fits (taken ++ b ∷ []) (suc at) rest) (record { taken = taken; past = at; rest = b ∷ rest })).rest
        ≡ at + length (b ∷ rest)
    go true k = omega arith
    go false k = refl

word-whole : (mode : Mode) (at : ℕ) (bytes : Bytes) → Whole (at + length bytes) (word_at mode at bytes)
word-whole outside at bytes = inner (at + length bytes) (word_at outside at bytes) (run-kept name_byte [] at bytes) refl
word-whole inside at bytes = inner (at + length bytes) (word_at inside at bytes) (run-kept word_byte [] at bytes) refl
word-whole naming at bytes = inner (at + length bytes) (word_at naming at bytes) (run-kept name_byte [] at bytes) refl

-- STRINGS

quote-on-whole : (place total at : ℕ) (t : Turn) (next : Quoting → Bytes → Quotation) (rest : Bytes) → at + length rest ≡ total
    → ((state : Quoting) (text : Bytes) → Whole total (quoted_at place (next state text)))
    → Whole total (quoted_at place (quote_on t next at rest))
quote-on-whole place total at (goes_on state text) next rest k w = w state text
quote-on-whole place total at (closes text) next rest k w = inner total (lexed (quoted text) place at rest) k refl
quote-on-whole place total at breaks next rest k w = inner total (lexed malformed place at rest) k refl

quotation-whole : (place : ℕ) (state : Quoting) (text : Bytes) (at : ℕ) (bytes : Bytes) (total : ℕ) → at + length bytes ≡ total
    → Whole total (quoted_at place (quotation state text at bytes))
unfolding quotation
quotation-whole place state text at [] total k = inner total (lexed malformed place at []) k refl
quotation-whole place state text at (b ∷ rest) total k =
    quote-on-whole place total (suc at) (turn state text b) (λ next longer. quotation next longer (suc at) rest) rest (omega arith)
    (λ next longer. quotation-whole place next longer (suc at) rest total (omega arith))

-- TOKENS

bracket-whole : (at total : ℕ) (rest : Bytes) (b : Bool) → suc at + length rest ≡ total → Whole total (bracket_at at rest b)
bracket-whole at total rest true k = inner total (bracket_at at rest true) k refl
bracket-whole at total rest false k = inner total (bracket_at at rest false) k refl

token-whole : (mode : Mode) (at : ℕ) (bytes : Bytes) → Whole (at + length bytes) (token_at mode at bytes)
token-whole mode at [] = record { kept = refl; last-place = λ e. omega arith }
token-whole mode at (b ∷ rest) =
    let total = at + length (b ∷ rest) in
    of_either (Whole total) (in_class alphabetic b) (word_at mode at (b ∷ rest)) _ (word-whole mode at (b ∷ rest))
    (of_either (Whole total) (eqb b 39) (quoted_at at (quotation plain [] (suc at) rest)) _
    (quotation-whole at plain [] (suc at) rest total (omega arith))
    (of_either (Whole total) (eqb b 60) (bracket_at at rest (ahead (in_class alphabetic) rest)) _
    (bracket-whole at total rest (ahead (in_class alphabetic) rest) (omega arith))
    (inner total (lexed (sign b) at (suc at) rest) (omega arith) refl)))

skipped-whole : (mode : Mode) (gap : Gap) (at : ℕ) → Whole (at + 0) (token_past mode (skipped_end gap at))
skipped-whole mode between at = token-whole mode at []
skipped-whole mode (opening slash) at = inner (at + 0) (lexed malformed slash at []) refl refl
skipped-whole mode (commented slash) at = inner (at + 0) (lexed malformed slash at []) refl refl
skipped-whole mode (starred slash) at = inner (at + 0) (lexed malformed slash at []) refl refl

skip-on-whole : (mode : Mode) (total : ℕ) (o : Option Gap) (next : Gap → Skipped) (stays : Skipped)
    → Whole total (token_past mode stays) → ((gap : Gap) → Whole total (token_past mode (next gap)))
    → Whole total (token_past mode (skip_on o next stays))
skip-on-whole mode total none next stays s w = s
skip-on-whole mode total (some gap) next stays s w = w gap

skip-whole : (mode : Mode) (gap : Gap) (at : ℕ) (bytes : Bytes) (total : ℕ) → at + length bytes ≡ total →
    Whole total (token_past mode (skip gap at bytes))
unfolding skip
skip-whole mode gap at [] total k = subst (λ z. Whole z (token_past mode (skipped_end gap at))) k (skipped-whole mode gap at)
skip-whole mode gap at (b ∷ rest) total k =
    skip-on-whole mode total (gap_after gap at b rest) (λ next. skip next (suc at) rest) (found at (b ∷ rest))
    (subst (λ z. Whole z (token_at mode at (b ∷ rest))) k (token-whole mode at (b ∷ rest)))
    (λ next. skip-whole mode next (suc at) rest total (omega arith))

pub lex-whole : (mode : Mode) (at : ℕ) (bytes : Bytes) → Whole (at + length bytes) (lex mode at bytes)
unfolding lex
lex-whole mode at bytes = skip-whole mode between at bytes (at + length bytes) refl

-- THE END OF THE TEXT

end-among : (b : ℕ) (mode : Mode) (at : ℕ) (bytes : Bytes) (total : ℕ) → at + length bytes ≡ total
    → (used : List Placed) (t : Placed) (others : List Placed) → tokens_from b mode at bytes ≡ used ++ t ∷ others → is_text_end t.token ≡ true
    → t.place ≡ total
unfolding tokens_from
end-among zero mode at bytes total k used t others e p = not-nothing used t others e
end-among (suc b) mode at bytes total k [] t others e p =
    let x = lex mode at bytes in
    let w = lex-whole mode at bytes in
    let one : x.first ≡ t = cc in
    let q : is_text_end x.first.token ≡ true = rw one p in
    rw (← one) (omega (arith, w.last-place q))
end-among (suc b) mode at bytes total k (u ∷ used) t others e p =
    let x = lex mode at bytes in
    let later = (tokens-later b mode at bytes used t others e).1 in
    end-among b (mode_after mode x.first.token) x.first.past x.rest total (omega (arith, (lex-whole mode at bytes).kept)) used t others later
    p

-- 01: "end of text: its length"
pub text-end : (text : Bytes) (before : List Placed) (t : Placed) (after : List Placed) → tokens text ≡ before ++ t ∷ after → is_text_end t.token ≡
    true
    → t.place ≡ length text
text-end text before t after e p = end-among (suc (length text)) outside 0 text (length text) (omega arith) before t after e p
