-- 01's translation as it was before T-07: every argument goes to out whole. It is kept for one theorem, that "No run
-- may need more cells than under the earlier translation" (proofs/laws/Lighter).
use Rattle.std.specs.Prelude.{ℕ, List, [], ◌∷◌, map}
use Rattle.meaning.specs.Choice.{Named}
use Rattle.meaning.specs.Tree.{Expression, end, then_character, then_symbol, then_part, then_call, Sentence, Function}
use Rattle.meaning.specs.Tree.{Table}
use Rattle.meaning.specs.Names.{number_of, recoverer_of}
use Rattle.meaning.specs.Instructions.{Site, Action, go, select, out, out_c, out_v, begin_seq, Sentences, no_more}
use Rattle.meaning.specs.Instructions.{sentence, Code}
use Rattle.meaning.specs.Translation.{Shape, shape_of, metric_of, tested_shape, tests_of, stores_of, value_number}
use Rattle.meaning.specs.Translation.{Stand, at_start, passage, Level, outermost, in_argument, manner_of, calling}
use Rattle.meaning.specs.Translation.{passes_rest}

module _ (table : Table) (shape : Shape) (sites : List (Named Site)) where
  unfoldable pub earlier_items : Level → Expression → Stand → (Stand → List Action) → List Action
  earlier_items level end w rest = rest w
  earlier_items level (then_character c e) w rest = out_c c ∷ earlier_items level e w rest
  earlier_items level (then_symbol x e) w rest = out_v (value_number sites x) ∷ earlier_items level e w rest
  earlier_items level (then_part x e) w rest =
      let way = passage shape x w in
      go way.gap ∷ select way.piece ∷ out ∷ earlier_items level e way.after rest
  earlier_items level (then_call place n a e) w rest =
      begin_seq ∷
      earlier_items in_argument a w
      (λ w₁. let more = earlier_items level e w₁ rest in calling shape (manner_of level e n) (number_of table n) n w₁ more)

unfoldable pub earlier_sentences : Table → ℕ → List Sentence → Sentences
earlier_sentences table r [] = no_more r
earlier_sentences table r (s ∷ ss) =
    let shape = shape_of s.pattern in
    sentence (metric_of shape) (tests_of shape (tested_shape shape) s.conditions) (stores_of (tested_shape shape))
    (earlier_items table shape (tested_shape shape).sites outermost s.expression at_start (passes_rest shape))
    (earlier_sentences table r ss)

abbrev pub earlier_function : Table → Function → Sentences
earlier_function table f = earlier_sentences table (recoverer_of table f.name) f.sentences

abbrev pub earlier_translation : Table → Code
earlier_translation table = map (earlier_function table) table
