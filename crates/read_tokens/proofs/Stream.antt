-- The tokens from a place on: the first, and those from its end on.
use Prim.Native.Nat.{ℕ, zero, suc, ◌-◌, ◌≤◌, ◌<◌}
use mathlib.Core.Path.{◌≡◌, refl, sym, ap, subst, ◌∙◌}
use mathlib.Core.Bool.{Bool, true, false, not}
use mathlib.Core.List.{List, [], ◌∷◌}
use native.Mathlib.Omega.{arith}
use lib.Dec.{T}
use lib.ListN.{length, drop}
use Rattle.meaning.specs.Choice.{Bytes, pick}
use Rattle.meaning.specs.Tokens as Tokens
use Rattle.read_tokens.specs.declared.Placed.{Placed}
use Rattle.read_tokens.specs.View.{placed_of, ShowsToken, stream, Comes}
use Rattle.read_tokens.proofs.Onward.{lex-ends}

-- what comes after a token that is not the last
picked : {A : Type 0} (is : Bool) (x y z : A) → (T (not is) → y ≡ z) → pick is x y ≡ pick is x z
picked true x y z e = refl
picked false x y z e = e tt

module _ (text : Bytes) where
  -- the first token from a place on
  abbrev lex_at : Tokens.Mode → ℕ → Tokens.Lexed
  lex_at mode at = Tokens.lex mode at (drop at text)

  abbrev after : Tokens.Mode → ℕ → Tokens.Mode
  after mode at = Tokens.mode_after mode (lex_at mode at).first.token

  -- two bounds above the number of bytes left
  abbrev Bounded : ℕ → ℕ → Type 0
  Bounded b c =
      (mode : Tokens.Mode) (at : ℕ) → at ≤ length text → length text - at < b → length text - at < c
      → Tokens.tokens_from b mode at (drop at text) ≡ Tokens.tokens_from c mode at (drop at text)

  -- the first token, and those after it under another bound
  first_then : (b c : ℕ) → Bounded b c → (mode : Tokens.Mode) (at : ℕ) → at ≤ length text → length text - at < suc b → length text - at < suc c
      → Tokens.tokens_from (suc b) mode at (drop at text)
      ≡ (lex_at mode at).first ∷ pick (Tokens.is_last_token (lex_at mode at).first.token) []
      (Tokens.tokens_from c (after mode at) (lex_at mode at).first.past (drop (lex_at mode at).first.past text))
  unfolding Tokens.tokens_from
  first_then b c bounded mode at h p q =
      let l = lex-ends text mode at h in
      ap (λ (later : List Tokens.Placed). (lex_at mode at).first ∷ later)
      (picked (Tokens.is_last_token (lex_at mode at).first.token) [] _ _ λ m.
      let s = l.ends.moves m in
      let o = l.onward in
      rw s.left (bounded (after mode at) (lex_at mode at).first.past s.inside (omega (arith, s.onward)) (omega (arith, s.onward))))

  -- a bound above the number of bytes is never reached
  bounds : (b c : ℕ) → Bounded b c
  bounds zero c mode at h p q = absurd (omega arith)
  bounds (suc b) zero mode at h p q = absurd (omega arith)
  bounds (suc b) (suc c) mode at h p q =
      first_then b c (bounds b c) mode at h p q ∙ sym (first_then c c (λ mode at h p q. refl) mode at h q q)

  pub stream-step : (mode : Tokens.Mode) (at : ℕ) → at ≤ length text
      → stream text mode at
      ≡ (lex_at mode at).first ∷ pick (Tokens.is_last_token (lex_at mode at).first.token) [] (stream text (after mode at) (lex_at mode at).first.past)
  unfolding stream
  stream-step mode at h =
      first_then (length text) (suc (length text)) (bounds (length text) (suc (length text))) mode at h (omega arith) (omega arith)

  -- a token comes first from a place on: what comes after it, and that it is read again at its place
  record First (mode : Tokens.Mode) (at : ℕ) (p : Tokens.Placed) : Type 0 where
    unrolled : stream text mode at ≡ p ∷ pick (Tokens.is_last_token p.token) [] (stream text (Tokens.mode_after mode p.token) p.past)
    again : stream text mode p.place ≡ stream text mode at
    onward : at ≤ p.place
    forward : p.place ≤ p.past
    inside : p.past ≤ length text
    moves : T (not (Tokens.is_last_token p.token)) → p.place < p.past

  first : (mode : Tokens.Mode) (at : ℕ) → at ≤ length text → First mode at (lex_at mode at).first
  unfolding stream Tokens.tokens_from
  first mode at h =
      let l = lex-ends text mode at h in
      record {
        unrolled = stream-step mode at h;
        again = ap (Tokens.tokens_past (Tokens.tokens_from (length text)) mode) l.again;
        onward = l.onward;
        forward = l.ends.forward;
        inside = l.ends.inside;
        moves = λ m. (l.ends.moves m).onward;
      }

  pub comes : (mode : Tokens.Mode) (at : ℕ) (t : Placed) → at ≤ length text → ShowsToken text t (lex_at mode at).first → Comes text mode at t
  comes mode at t h s =
      let f : First mode at (placed_of text t) = subst (λ (p : Tokens.Placed). First mode at p) (sym s.same) (first mode at h) in
      record {
        unrolled = f.unrolled;
        again = f.again;
        onward = f.onward;
        forward = f.forward;
        inside = f.inside;
        moves = f.moves;
        sound = s.sound;
      }
