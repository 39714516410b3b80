-- Where tokens end: every token but the last passes a byte, and reading again at a token's place gives that token.
use Prim.Native.Nat.{ℕ, suc, ◌≤◌, ◌<◌}
use mathlib.Core.Path.{◌≡◌, refl, ◌∙◌, ap}
use mathlib.Core.Bool.{Bool, true, false, not}
use mathlib.Core.List.{[], ◌∷◌, ◌++◌}
use mathlib.Core.Option.{none, some}
use native.Mathlib.Numerals.{add-one}
use native.Mathlib.Omega.{arith}
use lib.Dec.{T, eqb}
use lib.ListN.{length, drop, length-drop}
use lib.Seq.{drop-drop}
use Rattle.meaning.specs.Choice.{Bytes, pick, both}
use Rattle.meaning.specs.Classes.{in_class, alphabetic, is_blank_byte}
use Rattle.meaning.specs.Allowed.{word_byte, name_byte}
use Rattle.meaning.specs.Tokens.{Mode, outside, inside, naming, Token, sign, text_end, Lexed, lexed, Gap, between, opening, commented, starred}
use Rattle.meaning.specs.Tokens.{Skipped, found, unclosed, ahead, skip, skip_on, Run, run, Turn, goes_on, closes, breaks, Quoting, plain, Quotation}
use Rattle.meaning.specs.Tokens.{closed, broken, turn, quotation, quote_on, word_at, quoted_at, bracket_at, token_at, token_past, lex, is_last_token}

-- PLACES

-- the bytes from a place on, and the first of them
pub record Cut (text : Bytes) (at : ℕ) (rest : Bytes) : Type 0 where
  pub later : rest ≡ drop (suc at) text
  pub inside : at < length text

pub cut : (text : Bytes) (at b : ℕ) (rest : Bytes) → b ∷ rest ≡ drop at text → Cut text at rest
cut text at b rest e =
    record {
      later = ap (drop 1) e ∙ drop-drop 1 at text ∙ rw add-one;
      inside = omega (arith, ap length e ∙ length-drop at text);
    }

-- what was passed from a place on ends at another, and these bytes are left
pub record Ends (text : Bytes) (at past : ℕ) (rest : Bytes) : Type 0 where
  pub onward : at ≤ past
  pub inside : past ≤ length text
  pub left : rest ≡ drop past text

module _ (text : Bytes) where
  ends-here : (at : ℕ) (rest : Bytes) → rest ≡ drop at text → at ≤ length text → Ends text at at rest
  ends-here at rest e h = record { onward = omega arith; inside = h; left = e }

  ends-later : {at past : ℕ} {rest : Bytes} → Ends text (suc at) past rest → Ends text at past rest
  ends-later s = record { onward = omega (arith, s.onward); inside = s.inside; left = s.left }

  -- WORDS

  pub run_ends : (fits : ℕ → Bool) (bytes taken : Bytes) (at : ℕ) → bytes ≡ drop at text → at ≤ length text
      → Ends text at (run fits taken at bytes).past (run fits taken at bytes).rest
  unfolding run
  run_ends fits [] taken at e h = ends-here at [] e h
  run_ends fits (b ∷ rest) taken at e h =
      let k = cut text at b rest e in
      chosen (fits b) (run_ends fits rest (taken ++ b ∷ []) (suc at) k.later k.inside)
    where
      longer : Run
      longer = run fits (taken ++ b ∷ []) (suc at) rest

      stays : Run
      stays = record { taken = taken; past = at; rest = b ∷ rest }

      chosen : (is : Bool) → Ends text (suc at) longer.past longer.rest
          → Ends text at (pick is longer stays).past (pick is longer stays).rest
      chosen true s = ends-later s
      chosen false s = ends-here at (b ∷ rest) e h

  -- STRINGS

  abbrev QuotationEnds : ℕ → Quotation → Type 0
  QuotationEnds at (closed characters past rest) = Ends text (suc at) past rest
  QuotationEnds at (broken past rest) = Ends text at past rest

  pub quotation-ends : (bytes : Bytes) (state : Quoting) (characters : Bytes) (at : ℕ) → bytes ≡ drop at text → at ≤ length text
      → QuotationEnds at (quotation state characters at bytes)
  unfolding quotation
  quotation-ends [] state characters at e h = ends-here at [] e h
  quotation-ends (b ∷ rest) state characters at e h =
      let k = cut text at b rest e in
      chosen (turn state characters b) (λ next longer. quotation-ends rest next longer (suc at) k.later k.inside) k
    where
      goes : (q : Quotation) → QuotationEnds (suc at) q → QuotationEnds at q
      goes (closed cs past r) s = ends-later s
      goes (broken past r) s = ends-later s

      chosen : (t : Turn) → ((next : Quoting) (longer : Bytes) → QuotationEnds (suc at) (quotation next longer (suc at) rest)) → Cut text at rest
          → QuotationEnds at (quote_on t (λ next longer. quotation next longer (suc at) rest) (suc at) rest)
      chosen (goes_on next longer) s k = goes (quotation next longer (suc at) rest) (s next longer)
      chosen (closes cs) s k = ends-here (suc at) rest k.later k.inside
      chosen breaks s k = ends-later (ends-here (suc at) rest k.later k.inside)

  -- GAPS

  -- a comment that begins at a place, seen from another in it
  pub record Comment (start slash at : ℕ) (gap : Gap) (bytes : Bytes) : Type 0 where
    pub same : skip between slash (drop slash text) ≡ skip gap at bytes
    pub after : start ≤ slash
    pub before : slash ≤ at

  -- what is known of a gap that was reached from a start
  abbrev Reached : ℕ → Gap → ℕ → Bytes → Type 0
  Reached start between at bytes = Unit {0}
  Reached start (opening slash) at bytes = Comment start slash at (opening slash) bytes
  Reached start (commented slash) at bytes = Comment start slash at (commented slash) bytes
  Reached start (starred slash) at bytes = Comment start slash at (starred slash) bytes

  -- where a token begins, and where a comment has no end: skipping again from there comes to the same
  pub record FoundAt (start at : ℕ) (bytes : Bytes) : Type 0 where
    pub same : skip between at (drop at text) ≡ found at bytes
    pub left : bytes ≡ drop at text
    pub after : start ≤ at
    pub inside : at ≤ length text

  pub record UnclosedAt (start slash past : ℕ) : Type 0 where
    pub same : skip between slash (drop slash text) ≡ unclosed slash past
    pub after : start ≤ slash
    pub before : slash ≤ past
    pub inside : past ≤ length text

  abbrev pub Skips : ℕ → Skipped → Type 0
  Skips start (found at bytes) = FoundAt start at bytes
  Skips start (unclosed slash past) = UnclosedAt start slash past

  -- a byte of the gap at a place, and what comes after it
  module _ (start at b : ℕ) (rest : Bytes) (e : b ∷ rest ≡ drop at text) (h : start ≤ at) (k : at < length text)
      (later : (gap : Gap) → Reached start gap (suc at) rest → Skips start (skip gap (suc at) rest)) where
    in_between : (blank opens : Bool) → is_blank_byte b ≡ blank → both (eqb b 47) (ahead (eqb 42) rest) ≡ opens
        → Skips start
        (skip_on (pick blank (some between) (pick opens (some (opening at)) none)) (λ next. skip next (suc at) rest) (found at (b ∷ rest)))
    unfolding skip
    in_between true opens p q = later between tt
    in_between false true p q = later (opening at) (record { same = rw (← e, p, q); after = h; before = omega arith })
    in_between false false p q = record { same = rw (← e, p, q); left = e; after = h; inside = omega arith }

    -- one byte more of a comment
    further : (slash : ℕ) (gap next : Gap) → Comment start slash at gap (b ∷ rest) → skip gap at (b ∷ rest) ≡ skip next (suc at) rest
        → Comment start slash (suc at) next rest
    further slash gap next c s = record { same = c.same ∙ s; after = c.after; before = omega (arith, c.before) }

    in-comment : (slash : ℕ) → Comment start slash at (commented slash) (b ∷ rest) → (star : Bool) → eqb b 42 ≡ star
        → Skips start (skip (pick star (starred slash) (commented slash)) (suc at) rest)
    unfolding skip
    in-comment slash c true p = later (starred slash) (further slash (commented slash) (starred slash) c (rw p))
    in-comment slash c false p = later (commented slash) (further slash (commented slash) (commented slash) c (rw p))

    after-star : (slash : ℕ) → Comment start slash at (starred slash) (b ∷ rest) → (ends star : Bool) → eqb b 47 ≡ ends → eqb b 42 ≡ star
        → Skips start (skip (pick ends between (pick star (starred slash) (commented slash))) (suc at) rest)
    unfolding skip
    after-star slash c true star p q = later between tt
    after-star slash c false true p q = later (starred slash) (further slash (starred slash) (starred slash) c (rw (p, q)))
    after-star slash c false false p q = later (commented slash) (further slash (starred slash) (commented slash) c (rw (p, q)))

    in-gap : (gap : Gap) → Reached start gap at (b ∷ rest) → Skips start (skip gap at (b ∷ rest))
    unfolding skip
    in-gap between r = in_between (is_blank_byte b) (both (eqb b 47) (ahead (eqb 42) rest)) refl refl
    in-gap (opening slash) r = later (commented slash) (further slash (opening slash) (commented slash) r refl)
    in-gap (commented slash) r = in-comment slash r (eqb b 42) refl
    in-gap (starred slash) r = after-star slash r (eqb b 47) (eqb b 42) refl refl

  unclosed_at : (start slash at : ℕ) (gap : Gap) → Comment start slash at gap [] → at ≤ length text → skip gap at [] ≡ unclosed slash at →
      UnclosedAt start slash at
  unclosed_at start slash at gap c h s = record { same = c.same ∙ s; after = c.after; before = c.before; inside = h }

  skips-end : (start at : ℕ) → [] ≡ drop at text → start ≤ at → at ≤ length text → (gap : Gap) → Reached start gap at [] →
      Skips start (skip gap at [])
  unfolding skip
  skips-end start at e h k between r = record { same = rw (← e); left = e; after = h; inside = k }
  skips-end start at e h k (opening slash) r = unclosed_at start slash at (opening slash) r k refl
  skips-end start at e h k (commented slash) r = unclosed_at start slash at (commented slash) r k refl
  skips-end start at e h k (starred slash) r = unclosed_at start slash at (starred slash) r k refl

  pub skips : (bytes : Bytes) (start at : ℕ) → bytes ≡ drop at text → start ≤ at → at ≤ length text → (gap : Gap) → Reached start gap at bytes
      → Skips start (skip gap at bytes)
  skips [] start at e h k gap r = skips-end start at e h k gap r
  skips (b ∷ rest) start at e h k gap r =
      let c = cut text at b rest e in
      in-gap start at b rest e h c.inside (λ next s. skips rest start (suc at) c.later (omega arith) c.inside next s) gap r

  -- TOKENS

  -- a token begins at a place, ends in the text and, unless it is the last, passes a byte
  pub record TokenEnds (at : ℕ) (l : Lexed) : Type 0 where
    pub place : l.first.place ≡ at
    pub forward : at ≤ l.first.past
    pub inside : l.first.past ≤ length text
    pub moves : T (not (is_last_token l.first.token)) → Ends text (suc at) l.first.past l.rest

  -- a token that passes a byte
  moving : (at past : ℕ) (token : Token) (rest : Bytes) → Ends text (suc at) past rest → TokenEnds at (lexed token at past rest)
  moving at past token rest s = record { place = refl; forward = omega (arith, s.onward); inside = s.inside; moves = λ m. s }

  -- a token after which none comes
  last : (at past : ℕ) (token : Token) (rest : Bytes) → (T (not (is_last_token token)) → ⊥) → Ends text at past rest →
      TokenEnds at (lexed token at past rest)
  last at past token rest t s = record { place = refl; forward = s.onward; inside = s.inside; moves = λ m. absurd (t m) }

  module _ (at b : ℕ) (rest : Bytes) (e : b ∷ rest ≡ drop at text) where
    next : Ends text (suc at) (suc at) rest
    next = let k = cut text at b rest e in ends-here (suc at) rest k.later k.inside

    word-ends : (fits : ℕ → Bool) → fits b ≡ true → Ends text (suc at) (run fits [] at (b ∷ rest)).past (run fits [] at (b ∷ rest)).rest
    unfolding run
    word-ends fits t = let k = cut text at b rest e in rw t (run_ends fits rest (b ∷ []) (suc at) k.later k.inside)

    words-end : (mode : Mode) → in_class alphabetic b ≡ true → TokenEnds at (word_at mode at (b ∷ rest))
    words-end outside l = moving at _ _ _ (word-ends name_byte (rw l))
    words-end inside l = moving at _ _ _ (word-ends word_byte (rw l))
    words-end naming l = moving at _ _ _ (word-ends name_byte (rw l))

    string-ends : (q : Quotation) → QuotationEnds (suc at) q → TokenEnds at (quoted_at at q)
    string-ends (closed characters past r) s = moving at past _ r (ends-later s)
    string-ends (broken past r) s = last at past _ r (λ m. m) (ends-later s)

    bracket-ends : (letter : Bool) → TokenEnds at (bracket_at at rest letter)
    bracket-ends true = moving at (suc at) _ rest next
    bracket-ends false = last at (suc at) _ rest (λ m. m) (ends-later next)

    byte-ends : (mode : Mode) (letter quote bracket : Bool) → in_class alphabetic b ≡ letter
        → TokenEnds at
        (pick letter (word_at mode at (b ∷ rest))
        (pick quote (quoted_at at (quotation plain [] (suc at) rest))
        (pick bracket (bracket_at at rest (ahead (in_class alphabetic) rest))
        (lexed (sign b) at (suc at) rest))))
    byte-ends mode true quote bracket l = words-end mode l
    byte-ends mode false true bracket l =
        string-ends (quotation plain [] (suc at) rest) (quotation-ends rest plain [] (suc at) next.left next.inside)
    byte-ends mode false false true l = bracket-ends (ahead (in_class alphabetic) rest)
    byte-ends mode false false false l = moving at (suc at) _ rest next

  token-ends : (mode : Mode) (bytes : Bytes) (at : ℕ) → bytes ≡ drop at text → at ≤ length text → TokenEnds at (token_at mode at bytes)
  token-ends mode [] at e h = last at at text_end [] (λ m. m) (ends-here at [] e h)
  token-ends mode (b ∷ rest) at e h = byte-ends at b rest e mode (in_class alphabetic b) (eqb b 39) (eqb b 60) refl

  -- the first token from a place on: it ends in the text, passes a byte unless it is the last, and is read again at its place
  pub record LexEnds (mode : Mode) (start : ℕ) (l : Lexed) : Type 0 where
    pub onward : start ≤ l.first.place
    pub ends : TokenEnds l.first.place l
    pub again : lex mode l.first.place (drop l.first.place text) ≡ l

  past-ends : (mode : Mode) (start : ℕ) (s : Skipped) → Skips start s → LexEnds mode start (token_past mode s)
  unfolding lex
  past-ends mode start (found at bytes) f =
      let t = token-ends mode bytes at f.left f.inside in
      record { onward = rw t.place f.after; ends = rw t.place t; again = rw (t.place, f.same) }
  past-ends mode start (unclosed slash past) u =
      record {
        onward = u.after;
        ends = record { place = refl; forward = u.before; inside = u.inside; moves = λ m. absurd m };
        again = rw u.same;
      }

  pub lex-ends : (mode : Mode) (start : ℕ) → start ≤ length text → LexEnds mode start (lex mode start (drop start text))
  unfolding lex
  lex-ends mode start h = past-ends mode start (skip between start (drop start text))
      (skips (drop start text) start start refl (omega arith) h between tt)
