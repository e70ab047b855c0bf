use Rattle.read_statements.specs.declared.open.Mark.TheVariants as mark
use Rattle.read_statements.proofs.Marked.{marked, unmarked}
use Rattle.read_statements.proofs.marks.is_mark.Goals as goal

pub returns-in-Open-matches : goal.returns-in-Open-matches
returns-in-Open-matches c = marked c.args.mark mark.Open c.args.token c.in-Open.is c.in-Open-matches.is

pub returns-in_default : goal.returns-in_default
returns-in_default c = unmarked c.args.mark mark.Open c.args.token c.in-Open.is c.in_default.not-Open

pub returns-in-Close-matches : goal.returns-in-Close-matches
returns-in-Close-matches c = marked c.args.mark mark.Close c.args.token c.in-Close.is c.in-Close-matches.is

pub returns-in_default-matches : goal.returns-in_default-matches
returns-in_default-matches c = unmarked c.args.mark mark.Close c.args.token c.in-Close.is c.in_default-matches.not-Close

pub returns-in-Begin-matches : goal.returns-in-Begin-matches
returns-in-Begin-matches c = marked c.args.mark mark.Begin c.args.token c.in-Begin.is c.in-Begin-matches.is

pub returns-in_default-matches-2 : goal.returns-in_default-matches-2
returns-in_default-matches-2 c = unmarked c.args.mark mark.Begin c.args.token c.in-Begin.is c.in_default-matches-2.not-Begin

pub returns-in-End-matches : goal.returns-in-End-matches
returns-in-End-matches c = marked c.args.mark mark.End c.args.token c.in-End.is c.in-End-matches.is

pub returns-in_default-matches-3 : goal.returns-in_default-matches-3
returns-in_default-matches-3 c = unmarked c.args.mark mark.End c.args.token c.in-End.is c.in_default-matches-3.not-End

pub returns-in-Semicolon-matches : goal.returns-in-Semicolon-matches
returns-in-Semicolon-matches c = marked c.args.mark mark.Semicolon c.args.token c.in-Semicolon.is c.in-Semicolon-matches.is

pub returns-in_default-matches-4 : goal.returns-in_default-matches-4
returns-in_default-matches-4 c = unmarked c.args.mark mark.Semicolon c.args.token c.in-Semicolon.is c.in_default-matches-4.not-Semicolon

pub returns-in-Colon-matches : goal.returns-in-Colon-matches
returns-in-Colon-matches c = marked c.args.mark mark.Colon c.args.token c.in-Colon.is c.in-Colon-matches.is

pub returns-in_default-matches-5 : goal.returns-in_default-matches-5
returns-in_default-matches-5 c = unmarked c.args.mark mark.Colon c.args.token c.in-Colon.is c.in_default-matches-5.not-Colon

pub returns-in-Comma-matches : goal.returns-in-Comma-matches
returns-in-Comma-matches c = marked c.args.mark mark.Comma c.args.token c.in-Comma.is c.in-Comma-matches.is

pub returns-in_default-matches-6 : goal.returns-in_default-matches-6
returns-in_default-matches-6 c = unmarked c.args.mark mark.Comma c.args.token c.in-Comma.is c.in_default-matches-6.not-Comma

pub returns-in-Assign-matches : goal.returns-in-Assign-matches
returns-in-Assign-matches c = marked c.args.mark mark.Assign c.args.token c.in-Assign.is c.in-Assign-matches.is

pub returns-in_default-matches-7 : goal.returns-in_default-matches-7
returns-in_default-matches-7 c = unmarked c.args.mark mark.Assign c.args.token c.in-Assign.is c.in_default-matches-7.not-Assign

pub returns-in-While-matches : goal.returns-in-While-matches
returns-in-While-matches c = marked c.args.mark mark.While c.args.token c.in-While.is c.in-While-matches.is

pub returns-in_default-matches-8 : goal.returns-in_default-matches-8
returns-in_default-matches-8 c = unmarked c.args.mark mark.While c.args.token c.in-While.is c.in_default-matches-8.not-While

pub returns-in-Break-matches : goal.returns-in-Break-matches
returns-in-Break-matches c = marked c.args.mark mark.Break c.args.token c.in-Break.is c.in-Break-matches.is

pub returns-in_default-matches-9 : goal.returns-in_default-matches-9
returns-in_default-matches-9 c = unmarked c.args.mark mark.Break c.args.token c.in-Break.is c.in_default-matches-9.not-Break

pub returns-in-Void-matches : goal.returns-in-Void-matches
returns-in-Void-matches c = marked c.args.mark mark.Void c.args.token c.in-Void.is c.in-Void-matches.is

pub returns-in_default-matches-10 : goal.returns-in_default-matches-10
returns-in_default-matches-10 c = unmarked c.args.mark mark.Void c.args.token c.in-Void.is c.in_default-matches-10.not-Void

pub returns-in-Zero-matches : goal.returns-in-Zero-matches
returns-in-Zero-matches c = marked c.args.mark mark.Zero c.args.token c.in-Zero.is c.in-Zero-matches.is

pub returns-in_default-matches-11 : goal.returns-in_default-matches-11
returns-in_default-matches-11 c = unmarked c.args.mark mark.Zero c.args.token c.in-Zero.is c.in_default-matches-11.not-Zero
