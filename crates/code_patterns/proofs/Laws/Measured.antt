-- Laws of measuring a pattern: each step keeps what measuring comes to.
use Prim.Native.Nat.{ℕ, suc, ◌+◌, ◌≤◌, ◌<◌}
use native.Mathlib.Omega.{arith}
use native.Mathlib.Nat.{zero-add}
use mathlib.Core.Path.{◌≡◌, refl, sym, ap, ap₂, ◌∙◌}
use mathlib.Core.List.{List, []}
use lib.ListN.{length, drop, get_or}
use Rattle.meaning.specs.Allowed.{max_letters}
use Rattle.meaning.specs.Choice.{Name}
use Rattle.meaning.specs.Tree.{Letter, character, symbol, Element, letter, part}
use Rattle.meaning.specs.Translation.{Shape, fixed, open₁, open₂, with_letter, cut_at, shape_of}
use Rattle.tape_words.specs.declared.tape.Parts.{Parts}
use Rattle.tape_words.specs.declared.tape.Parts.TheVariants.{Zero, One, Two}
use Rattle.tape_words.specs.declared.tape.Piece.{Piece}
use Rattle.tape_words.specs.declared.tape.Piece.TheVariants.{Character, SVariable, EVariable, PatternEnd}
use Rattle.code_patterns.specs.declared.pattern.Pattern.{Pattern}
use Rattle.tape_words.specs.Words.{head_name, piece_at}
use Rattle.code_patterns.specs.Scans.{Scan, scanned, prepended, one_more, piece_by, pattern_on_tape, pattern_at}
use Rattle.code_patterns.specs.Measuring.{lengths, lengths_of, add_first, add_second, add_third, longer_lengths, cut_lengths, variable_place}
use Rattle.code_patterns.specs.Measuring.{past_letter, past_part, measured_by, variable_by, Measured, measuring, measured, InPattern, Measures}
use Rattle.code_patterns.specs.Measuring.{MeasuresAll}
use Rattle.tape_words.proofs.Laws.Names.{name-here}
use Rattle.code_patterns.proofs.Laws.Scanning.{pattern-at, pattern-end, pattern-past, Fits, pattern-fits, NotBoth, Told, told}

-- a letter's length counts before or after
one-first : (a n : ℕ) → a + 1 + n ≡ a + suc n
one-first a n = omega arith

longer-measured : (p : Parts) (a b c : ℕ) (l : Letter) (s : Shape) → Fits p s
    → measured_by p (longer_lengths (lengths p a b c)) s ≡ measured_by p (lengths p a b c) (with_letter l s)
longer-measured Zero a b c l (fixed t) h = ap (λ (n : ℕ). lengths Zero n b c) (one-first a (length t))
longer-measured Zero a b c l (open₁ g x t) h = ap (λ (n : ℕ). lengths One n (b + length t) c) (one-first a (length g))
longer-measured Zero a b c l (open₂ g x m y t) h = ap (λ (n : ℕ). lengths Two n (b + length m) (c + length t)) (one-first a (length g))
longer-measured One a b c l (fixed t) h = ap (λ (n : ℕ). lengths One a n c) (one-first b (length t))
longer-measured One a b c l (open₁ m x t) h = ap (λ (n : ℕ). lengths Two a n (c + length t)) (one-first b (length m))
longer-measured One a b c l (open₂ g x m y t) h = absurd h
longer-measured Two a b c l (fixed t) h = ap (λ (n : ℕ). lengths Two a b n) (one-first c (length t))
longer-measured Two a b c l (open₁ g x t) h = absurd h
longer-measured Two a b c l (open₂ g x m y t) h = absurd h

longer-variable : (p : Parts) (n : Name) (l : Letter) (s : Shape) → variable_by p n s ≡ variable_by p n (with_letter l s)
longer-variable Zero n l (fixed t) = refl
longer-variable Zero n l (open₁ g x t) = refl
longer-variable Zero n l (open₂ g x m y t) = refl
longer-variable One n l s = refl
longer-variable Two n l s = refl

cut-measured : (p : Parts) (a b c : ℕ) (x : Name) (s : Shape) → NotBoth p → Fits (one_more p) s
    → measured_by (one_more p) (cut_lengths (lengths p a b c)) s ≡ measured_by p (lengths p a b c) (cut_at x s)
cut-measured Zero a b c x (fixed t) g h = ap (λ (n : ℕ). lengths One n (b + length t) c) (omega arith)
cut-measured Zero a b c x (open₁ m y t) g h = ap (λ (n : ℕ). lengths Two n (b + length m) (c + length t)) (omega arith)
cut-measured Zero a b c x (open₂ k y m z t) g h = absurd h
cut-measured One a b c x (fixed t) g h = ap (λ (n : ℕ). lengths Two a n (c + length t)) (omega arith)
cut-measured One a b c x (open₁ m y t) g h = absurd h
cut-measured One a b c x (open₂ k y m z t) g h = absurd h
cut-measured Two a b c x s g h = absurd g

cut-variable : (p : Parts) (ws : List ℕ) (known next : ℕ) (s : Shape) → NotBoth p → Fits (one_more p) s
    → variable_by (one_more p) (head_name ws (variable_place p known next)) s ≡ variable_by p (head_name ws known) (cut_at (head_name ws next) s)
cut-variable Zero ws known next (fixed t) g h = refl
cut-variable Zero ws known next (open₁ m y t) g h = refl
cut-variable Zero ws known next (open₂ k y m z t) g h = absurd h
cut-variable One ws known next s g h = refl
cut-variable Two ws known next s g h = absurd g

end-measured : (p : Parts) (a b c : ℕ) → measured_by p (lengths p a b c) (fixed []) ≡ lengths p a b c
end-measured Zero a b c = ap (λ (n : ℕ). lengths Zero n b c) (omega arith)
end-measured One a b c = ap (λ (n : ℕ). lengths One a n c) (omega arith)
end-measured Two a b c = ap (λ (n : ℕ). lengths Two a b n) (omega arith)

end-variable : (p : Parts) (n : Name) → variable_by p n (fixed []) ≡ n
end-variable Zero n = refl
end-variable One n = refl
end-variable Two n = refl

-- measured from nothing
whole-lengths : (s : Shape) → measured_by Zero (lengths Zero 0 0 0) s ≡ lengths_of s
whole-lengths (fixed t) = ap (λ (n : ℕ). lengths Zero n 0 0) (omega arith)
whole-lengths (open₁ h x t) = ap₂ (λ (n k : ℕ). lengths One n k 0) (omega arith) (omega arith)
whole-lengths (open₂ h x m y t) = rw (zero-add, zero-add, zero-add)

-- THE STEPS

module _ (ws : List ℕ) (m : Pattern) where
  abbrev here : Scan (List Element)
  here = pattern_on_tape m.letters m.lengths.parts 0 (drop m.next ws)

  -- the pattern after a letter, and after an e-variable, whose name is of so many words
  abbrev after_letter : ℕ → Scan (List Element)
  after_letter size = pattern_on_tape (m.letters + 1) m.lengths.parts 0 (drop (m.next + 1 + size) ws)

  abbrev after_part : ℕ → Scan (List Element)
  after_part size = pattern_on_tape m.letters (one_more m.lengths.parts) 0 (drop (m.next + 1 + size) ws)

  letter-same : (l : Letter) (size : ℕ) → here ≡ prepended (letter l) (after_letter size)
      → measuring ws (past_letter m size) ≡ measuring ws m
  unfolding shape_of
  letter-same l size e =
      rw (
        e,
        longer-measured m.lengths.parts m.lengths.first m.lengths.second m.lengths.third l (shape_of (after_letter size).value)
            (pattern-fits (drop (m.next + 1 + size) ws) (m.letters + 1) m.lengths.parts 0),
        longer-variable m.lengths.parts (head_name ws m.variable) l (shape_of (after_letter size).value),
      )

  part_same : (size : ℕ) → here ≡ prepended (part (head_name ws m.next)) (after_part size) → NotBoth m.lengths.parts
      → measuring ws (past_part m size) ≡ measuring ws m
  unfolding shape_of
  part_same size e h =
      let s = shape_of (after_part size).value in
      let fits = pattern-fits (drop (m.next + 1 + size) ws) m.letters (one_more m.lengths.parts) 0 in
      rw (
        e,
        cut-measured m.lengths.parts m.lengths.first m.lengths.second m.lengths.third (head_name ws m.next) s h fits,
        cut-variable m.lengths.parts ws m.variable m.next s h fits,
      )

  end_same : here ≡ scanned [] (drop m.next ws) → measured ws m ≡ measuring ws m
  unfolding shape_of
  end_same e =
      rw (
        e,
        end-measured m.lengths.parts m.lengths.first m.lengths.second m.lengths.third,
        end-variable m.lengths.parts (head_name ws m.variable),
      )

  -- `piece` is the one where the measure stands
  module _ (within : InPattern ws m) {piece : Piece} (is : piece ≡ piece_at (drop m.next ws) m.letters m.lengths.parts) where
    tells : (p : Piece) → piece ≡ p → Told ws m.next m.letters m.lengths.parts p
    tells p e = told ws m.next m.letters m.lengths.parts p (sym is ∙ e)

    reads : (p : Piece) → m.next < length ws → piece ≡ p
        → here ≡ piece_by p m.letters m.lengths.parts (get_or ws m.next 0) (drop (m.next + 1) ws)
        (λ l q skip. pattern_on_tape l q skip (drop (m.next + 1) ws))
    reads p inside e = pattern-at ws m.next m.letters m.lengths.parts p inside (sym is ∙ e)

    sum-longer : (p : Parts) (a b c n : ℕ) → a + b + c ≡ n → add_first p a + add_second p b + add_third p c ≡ n + 1
    sum-longer Zero a b c n e = omega arith
    sum-longer One a b c n e = omega arith
    sum-longer Two a b c n e = omega arith

    letter-measures : {r : Pattern} (size : ℕ) → m.letters < max_letters → m.next + 1 + size ≤ length ws
        → measuring ws (past_letter m size) ≡ measuring ws m → r ≡ past_letter m size → Measures ws m r
    letter-measures size room fits same done =
        rw done record {
          same = same;
          within =
              record {
                letters = sum-longer m.lengths.parts m.lengths.first m.lengths.second m.lengths.third m.letters within.letters;
                most = omega arith;
                next = fits;
              };
          ahead = omega arith;
        }

    pub character-measures : {r : Pattern} → piece ≡ Character → r ≡ past_letter m 0 → Measures ws m r
    character-measures e done =
        let (inside, room, byte) = tells Character e in
        let z : m.next + 1 + 0 ≡ m.next + 1 = omega arith in
        letter-measures 0 room (omega arith) (letter-same (character (get_or ws m.next 0)) 0 (reads Character inside e ∙ rw z)) done

    pub variable-measures : {r : Pattern} {size : ℕ} → piece ≡ SVariable → size ≡ length (head_name ws m.next) → r ≡ past_letter m size →
        Measures ws m r
    variable-measures e long done =
        let (named, room) = tells SVariable e in
        letter-measures (length (head_name ws m.next)) room named.fits
        (letter-same (symbol (head_name ws m.next)) (length (head_name ws m.next))
        (reads SVariable named.inside e
        ∙ rw (pattern-past (m.letters + 1) m.lengths.parts ws m.next named.inside, ← (name-here ws m.next named.inside))))
        (rw long at done)

    pub part-measures : {r : Pattern} {size : ℕ} → piece ≡ EVariable → size ≡ length (head_name ws m.next) → r ≡ past_part m size → Measures ws m r
    part-measures e long done =
        let (named, one) = tells EVariable e in
        rw (done, long) record {
          same =
              part_same (length (head_name ws m.next))
              (reads EVariable named.inside e
              ∙ rw (pattern-past m.letters (one_more m.lengths.parts) ws m.next named.inside, ← (name-here ws m.next named.inside)))
              one;
          within = record { letters = within.letters; most = within.most; next = named.fits };
          ahead = omega (arith, named.inside);
        }

    pub end-measures : piece ≡ PatternEnd → measured ws m ≡ measuring ws m
    end-measures e = end_same (pattern-end ws m.next m.letters m.lengths.parts (sym is ∙ e))

-- the whole
pub measured-all : (ws : List ℕ) (start : ℕ) (r : Pattern) → InPattern ws r → measured ws r ≡ measuring ws r
    → measuring ws r ≡ measuring ws (record { lengths = lengths Zero 0 0 0; variable = start; letters = 0; next = start })
    → MeasuresAll ws start r
measured-all ws start r within over e =
    let f = over ∙ e in
    record {
      lengths = ap (λ (m : Measured). m.lengths) f ∙ whole-lengths (shape_of (pattern_at (drop start ws)).value);
      variable = ap (λ (m : Measured). m.variable) f;
      within = within;
    }
