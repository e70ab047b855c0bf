use Rattle.std.proofs.Common.{option_map, sym, ap, ◌∙◌, subst, arith}
use Rattle.read_statements.specs.Readers.{state_of}
use Rattle.c_read.proofs.Fronts.{Front, nothing_read, one_more}
use Rattle.c_read.proofs.Refusing.{token_refused, end_refused, end_stands}
use Rattle.c_read.proofs.text.read_rest.Goals as goal

pub loop-lexeme-init : goal.loop-lexeme-init
loop-lexeme-init c = (omega arith, subst (Front c.args.rest.now 0) (sym c.new-reader.ensures) (nothing_read c.args.rest.now))

pub returns-in_default-2 : goal.returns-in_default-2
returns-in_default-2 c =
    token_refused c.canonical_stands.ensures c.args.rest.now c.loop-lexeme.from (state_of c.loop-lexeme.reader) c.loop-lexeme.invariant.1
    c.in-Some.lexeme c.in-Some.ensures (ap (option_map state_of) (sym c.in_default-2.is) ∙ c.in_ok-next.ensures)

pub loop-lexeme-preserved : goal.loop-lexeme-preserved
loop-lexeme-preserved c =
    let read = state_of c.loop-lexeme.reader in
    let step = ap (option_map state_of) (sym c.in-Some-2.is) ∙ c.in_ok-next.ensures in (
      c.in-Some.ensures.inside,
      one_more c.args.rest.now c.loop-lexeme.from read (state_of c.in-Some-2.next) c.in-Some.lexeme c.loop-lexeme.invariant.1 c.in-Some.ensures step,
    )

pub returns-in-Some-finish : goal.returns-in-Some-finish
returns-in-Some-finish c =
    end_stands c.canonical_stands.ensures c.args.rest.now c.loop-lexeme.from (state_of c.loop-lexeme.reader) c.loop-lexeme.invariant.1
    c.in_default.ensures c.in-Some-finish.function (sym c.in-Some-finish.ensures)

pub returns-in-None : goal.returns-in-None
returns-in-None c =
    end_refused c.canonical_stands.ensures c.args.rest.now c.loop-lexeme.from (state_of c.loop-lexeme.reader) c.loop-lexeme.invariant.1
    c.in_default.ensures (sym c.in-None.ensures)
