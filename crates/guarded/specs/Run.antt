-- The run of a tree: each construct does what the part of a run of that name does.
use Rattle.std.specs.Prelude.{ℕ, Bool, List, Option, Some, None}
use Rattle.dream_words.specs.Words.{bit_of}
use Rattle.dream_words.specs.declared.machine.Name.TheVariants as name
use Rattle.dream_words.specs.declared.outcome.Start.{Start}
use Rattle.dream_words.specs.declared.outcome.Answer.{Answer}
use Rattle.dream_words.specs.declared.outcome.Outcome.{Outcome}
use Rattle.run_parts.specs.Parts.{skip, leave_loop, in_turn, choose, switch, repeat, always}
use Rattle.run_parts.specs.Steps.{Next, Halt, Jam, having, then_do, simply}
use Rattle.run_parts.specs.World.{World, returned, start_world, outcome_of}
use Rattle.run_parts.specs.Effects.{Doing, setting}
use Rattle.c_syntax.specs.Value.{each}
use Rattle.c_syntax.specs.Run.{Part, Test, word_in, holds, does_ext}
use Rattle.cond_terms.specs.declared.term.Term.{Term}
use Rattle.cond_terms.specs.Terms.{term_truth}
use Rattle.micro_ir.specs.declared.flow.End.{End as BlockEnd}
use Rattle.micro_ir.specs.declared.flow.End.TheVariants as end
use Rattle.micro_ir.specs.declared.flow.Block.{Block}
use Rattle.micro_ir.specs.Run.{stmts_do}
use Rattle.guarded.specs.declared.tree.SetTo.{SetTo}
use Rattle.guarded.specs.declared.tree.SetTo.TheVariants as to
use Rattle.guarded.specs.declared.tree.Tree.{Tree, Tree-F, fold-Tree}
use Rattle.guarded.specs.declared.tree.TreeCase.{TreeCase, TreeCase-F, fold-TreeCase}

-- the truth of a term in a world: variable v is the local for tests numbered v
abbrev pub term_in : Term → World → Bool
term_in t w = term_truth t (λ v. w.names (name.B v))

-- a term as a test; it is never stuck
abbrev pub term_holds : Term → Test
term_holds t w = Some (term_in t w)

-- the word that a name is set to: of a condition and of a term 1 where it is true, else 0
abbrev pub word_to : SetTo → World → Option ℕ
word_to (to.Expr e) w = word_in e w
word_to (to.Cond c) w = each bit_of (holds c w)
word_to (to.Term t) w = Some (bit_of (term_in t w))

-- What comes after the statements of a block. Go leads to what follows, Leave is a call and a return. A tree has no other
-- ends; they are stuck.
abbrev pub end_does : BlockEnd → World → Doing
end_does (end.Go a) w = Next w
end_does (end.Branch t a b) w = Jam
end_does (end.Switch e cases) w = Jam
end_does end.Return w = Halt (returned w)
end_does (end.Leave e) w = then_do (does_ext e w) (λ v. Halt (returned v))

-- the statements of a block, and its end
abbrev pub block_does : Block → World → Doing
block_does b w = then_do (stmts_do b.stmts w) (end_does b.end)

-- the other tree of an If, which may be missing
abbrev pub or_skip : Option Part → Part
or_skip None = skip
or_skip (Some a) = a

-- A tree, by its parts.
abbrev pub tree_at : Tree-F Part (List ℕ × Part) → Part
tree_at (Tree-F.Block b) = simply (block_does b)
tree_at (Tree-F.Seq members) = in_turn members
tree_at (Tree-F.If t a b) = choose (term_holds t) a (or_skip b)
tree_at (Tree-F.Switch n cases last) = switch (λ w. Some (w.names n)) cases last
tree_at (Tree-F.Loop a) = repeat always a always
tree_at (Tree-F.While t a) = repeat (term_holds t) a always
tree_at (Tree-F.DoWhile a t) = repeat always a (term_holds t)
tree_at Tree-F.Break = leave_loop
tree_at (Tree-F.Set n to) = simply (λ w. having (word_to to w) (λ x. setting n x w))

-- a case: its values and its body
abbrev pub case_at : TreeCase-F Part (List ℕ × Part) → List ℕ × Part
case_at c = (c.values, c.body)

-- what a tree does
abbrev pub tree_does : Tree → Part
tree_does = fold-Tree Part (List ℕ × Part) tree_at case_at

abbrev pub case_does : TreeCase → List ℕ × Part
case_does = fold-TreeCase Part (List ℕ × Part) tree_at case_at

-- The run of a tree with at most m loop turns in all, a turn being one entry into a loop's body. It goes on exactly where
-- one more turn was needed.
abbrev pub tree_run : Tree → Start → List Answer → ℕ → Outcome
tree_run t start answers m = outcome_of (tree_does t m (start_world start answers))
