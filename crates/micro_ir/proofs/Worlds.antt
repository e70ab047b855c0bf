-- From a world a flow leads to worlds.
use Rattle.std.proofs.Common.{◌≡◌, ℕ, zero, suc, ◌^◌, ◌<◌, ◌≤◌, Bool, true, false, cond, nat_eq, nat_lt, ◌&&◌, List, [], ◌∷◌, Option, Some, None, arith, rules, lit<}
use Rattle.std.specs.Prelude.{IsTrue, slice_get}
use Rattle.dream_words.specs.declared.machine.Name.{Name}
use Rattle.dream_words.specs.declared.machine.Name.TheVariants as n
use Rattle.dream_words.specs.declared.machine.Width.{Width}
use Rattle.dream_words.specs.declared.machine.Width.TheVariants as width
use Rattle.dream_words.specs.declared.machine.Regs.{Regs}
use Rattle.dream_words.specs.declared.machine.Flags.{Flags}
use Rattle.dream_words.specs.declared.machine.Bit.{Bit}
use Rattle.dream_words.specs.declared.machine.Bit.TheVariants.{Zero, One, Undefined}
use Rattle.dream_words.specs.declared.outcome.Start.{Start}
use Rattle.dream_words.specs.declared.outcome.Answer.{Answer}
use Rattle.dream_words.specs.declared.outcome.Call.{Call}
use Rattle.dream_words.specs.Memory.{Mem, load, store, bytes_of}
use Rattle.dream_words.specs.Pages.{first_bad}
use Rattle.dream_words.specs.Ranges.{AreWords, AreBytes, IsAnswer, AreAnswers}
use Rattle.dream_words.specs.Registers.{reg_of, flag_of, word_of_bit}
use Rattle.dream_words.proofs.Memories.{AreBytes-store, load-lt}
use Rattle.run_parts.specs.Steps.{Next, Halt, Jam, To, End, Nowhere, having, then_do, arrive}
use Rattle.run_parts.specs.World.{World, Names, with_name, answered, start_names, start_world}
use Rattle.run_parts.specs.Effects.{Doing, set_word, allowing, loading, storing, answered_by, calling}
use Rattle.c_syntax.specs.declared.syntax.CExpr.{CExpr}
use Rattle.c_syntax.specs.Run.{word_in, holds, does_ext}
use Rattle.micro_ir.specs.declared.flow.Case.{Case}
use Rattle.micro_ir.specs.declared.flow.Stmt.{Stmt}
use Rattle.micro_ir.specs.declared.flow.Stmt.TheVariants as stmt
use Rattle.micro_ir.specs.declared.flow.End.{End as BlockEnd}
use Rattle.micro_ir.specs.declared.flow.End.TheVariants as end
use Rattle.micro_ir.specs.declared.flow.Block.{Block}
use Rattle.micro_ir.specs.World.{IsWorld}
use Rattle.micro_ir.specs.Rule.{is_flow_target, is_flow_word, is_flow_stmt, are_flow_stmts, is_flow_end, is_flow_block, are_flow_blocks}
use Rattle.micro_ir.specs.Run.{Arrive, stmt_does, stmts_do, branch, first_case, by_value, left_by, end_leads, block_leads, enter, onward, walk}
use Rattle.micro_ir.specs.Laws.{IsWordOrStuck, DidStays, ArriveStays, WorldsStay}
use Rattle.micro_ir.proofs.Values.{both_true, value_small}

-- ---- names

either_small : (b : Bool) (x y : ℕ) → x < 2 ^ 32 → y < 2 ^ 32 → cond b x y < 2 ^ 32
either_small true x y h g = h
either_small false x y h g = g

set_words : (v : Names) (k : Name) (x : ℕ) → ((j : Name) → v j < 2 ^ 32) → x < 2 ^ 32 → (j : Name) → with_name v k x j < 2 ^ 32
set_words v (n.Reg k) x h l (n.Reg j) = either_small (nat_eq j k && nat_lt k 8) x (v (n.Reg j)) l (h (n.Reg j))
set_words v (n.Flag k) x h l (n.Flag j) = either_small (nat_eq j k && nat_lt k 5) x (v (n.Flag j)) l (h (n.Flag j))
set_words v n.Fs x h l n.Fs = l
set_words v n.Gs x h l n.Gs = l
set_words v (n.T k) x h l (n.T j) = either_small (nat_eq j k) x (v (n.T j)) l (h (n.T j))
set_words v (n.B k) x h l (n.B j) = either_small (nat_eq j k) x (v (n.B j)) l (h (n.B j))
set_words v (n.S k) x h l (n.S j) = either_small (nat_eq j k) x (v (n.S j)) l (h (n.S j))
set_words v k x h l j = h j

-- a register or a flag that doesn't exist isn't set
set_none : (a b i : ℕ) (x y : ℕ) → i ≤ a → y ≡ 0 → cond (nat_eq a b && nat_lt b i) x y ≡ 0
set_none a b i x y l e = search (rules, arith, l, e)

set_registers : (v : Names) (k : Name) (x : ℕ) → ((j : ℕ) → 8 ≤ j → v (n.Reg j) ≡ 0) → (j : ℕ) → 8 ≤ j → with_name v k x (n.Reg j) ≡ 0
set_registers v (n.Reg k) x h j l = set_none j k 8 x (v (n.Reg j)) l (h j l)
set_registers v k x h j l = h j l

set_flags : (v : Names) (k : Name) (x : ℕ) → ((j : ℕ) → 5 ≤ j → v (n.Flag j) ≡ 0) → (j : ℕ) → 5 ≤ j → with_name v k x (n.Flag j) ≡ 0
set_flags v (n.Flag k) x h j l = set_none j k 5 x (v (n.Flag j)) l (h j l)
set_flags v k x h j l = h j l

-- the words of registers and flags
regs_small : (r : Regs) → AreWords r → (k : ℕ) → reg_of r k < 2 ^ 32
regs_small r h k =
    either_small (nat_eq k 0) r.eax _ h.eax (either_small (nat_eq k 1) r.ecx _ h.ecx (either_small (nat_eq k 2) r.edx _ h.edx (either_small (nat_eq k 3) r.ebx _ h.ebx
    (either_small (nat_eq k 4) r.esp _ h.esp (either_small (nat_eq k 5) r.ebp _ h.ebp (either_small (nat_eq k 6) r.esi _ h.esi (either_small (nat_eq k 7) r.edi 0 h.edi (lit< tt))))))))

no_reg : (r : Regs) (k : ℕ) → 8 ≤ k → reg_of r k ≡ 0
no_reg r k l = search (rules, arith, l)

bit_small : (b : Bit) → word_of_bit b < 2 ^ 32
bit_small Zero = lit< tt
bit_small One = lit< tt
bit_small Undefined = lit< tt

flags_small : (f : Flags) (k : ℕ) → flag_of f k < 2 ^ 32
flags_small f k =
    either_small (nat_eq k 0) (word_of_bit f.c) _ (bit_small f.c) (either_small (nat_eq k 1) (word_of_bit f.p) _ (bit_small f.p) (either_small (nat_eq k 2) (word_of_bit f.z) _ (bit_small f.z)
    (either_small (nat_eq k 3) (word_of_bit f.s) _ (bit_small f.s) (either_small (nat_eq k 4) (word_of_bit f.o) 0 (bit_small f.o) (lit< tt)))))

no_flag_of : (f : Flags) (k : ℕ) → 5 ≤ k → flag_of f k ≡ 0
no_flag_of f k l = search (rules, arith, l)

-- ---- the worlds that statements lead to

pub set_stays : (w : World) (k : Name) (x : ℕ) → IsWorld w → x < 2 ^ 32 → IsWorld (set_word k x w)
set_stays w k x h l = record {
  words = set_words w.names k x h.words l;
  no_register = set_registers w.names k x h.no_register;
  no_flag = set_flags w.names k x h.no_flag;
  bytes = h.bytes;
  answers = h.answers;
}

-- the words after an answer
answered_words : (a : Answer) (v : Names) → AreWords a.regs → ((k : Name) → v k < 2 ^ 32) → (k : Name) → answered a v k < 2 ^ 32
answered_words a v r h (n.Reg k) = regs_small a.regs r k
answered_words a v r h (n.Flag k) = flags_small a.flags k
answered_words a v r h k = h k

-- the world after an answer
pub answer_stays : (w : World) (a : Answer) (rest : List Answer) (calls : List Call) → IsWorld w → IsAnswer a → AreAnswers rest → IsWorld (record w { names = answered a w.names; mem = a.mem; left = rest; calls = calls })
answer_stays w a rest calls h i r = record {
  words = answered_words a w.names i.regs h.words;
  no_register = no_reg a.regs;
  no_flag = no_flag_of a.flags;
  bytes = i.mem;
  answers = r;
}

answered_stays : (left : List Answer) (calls : List Call) (w : World) → IsWorld w → AreAnswers left → DidStays (answered_by left calls w)
answered_stays [] calls w h r = tt
answered_stays (a ∷ rest) calls w h r = answer_stays w a rest calls h r.0 r.1

-- a call
pub call_stays : (target : ℕ) (w : World) → IsWorld w → DidStays (calling target w)
call_stays target w h = answered_stays w.left _ w h h.answers

load_small : (w : Width) (m : Mem) (at : ℕ) → AreBytes m → load m at (bytes_of w) < 2 ^ 32
load_small width.B m at h = let l = load-lt m at 1 h in omega (arith, l)
load_small width.H m at h = let l = load-lt m at 2 h in omega (arith, l)
load_small width.W m at h = let l = load-lt m at 4 h in omega (arith, l)

-- an access, which may fault
allowed_stays : (bad : Option ℕ) (w : World) (d : Doing) → DidStays d → DidStays (allowing bad w d)
allowed_stays None w d h = h
allowed_stays (Some a) w d h = tt

pub load_stays : (k : Name) (wide : Width) (at : ℕ) (w : World) → IsWorld w → DidStays (loading k wide at w)
load_stays k wide at w h =
    allowed_stays (first_bad w.pages.read at (bytes_of wide)) w (Next (set_word k (load w.mem at (bytes_of wide)) w))
    (set_stays w k (load w.mem at (bytes_of wide)) h (load_small wide w.mem at h.bytes))

pub store_stays : (wide : Width) (at x : ℕ) (w : World) → IsWorld w → DidStays (storing wide at x w)
store_stays wide at x w h =
    allowed_stays (first_bad w.pages.write at (bytes_of wide)) w (Next (record w { mem = store w.mem at (bytes_of wide) x })) (record {
      words = h.words;
      no_register = h.no_register;
      no_flag = h.no_flag;
      bytes = AreBytes-store w.mem at (bytes_of wide) x h.bytes;
      answers = h.answers;
    })

trap_stays : (b : Bool) (w : World) (o : _) → IsWorld w → DidStays (cond b (Next w) (Halt o))
trap_stays true w o h = h
trap_stays false w o h = tt

having_stays : (o : Option ℕ) (k : ℕ → Doing) → IsWordOrStuck o → ((x : ℕ) → x < 2 ^ 32 → DidStays (k x)) → DidStays (having o k)
having_stays None k h g = tt
having_stays (Some x) k h g = g x h

-- the value of a Word of a flow in a world
pub value_is : (a : CExpr) (w : World) → IsTrue (is_flow_word a) → IsWorld w → IsWordOrStuck (word_in a w)
value_is a w t h = value_small a (both_true _ _ t).0 w.names h.words

pub stmt_stays : (s : Stmt) (w : World) → IsTrue (is_flow_stmt s) → IsWorld w → DidStays (stmt_does s w)
stmt_stays (stmt.Set k a) w t h = having_stays (word_in a w) _ (value_is a w (both_true (is_flow_target k) (is_flow_word a) t).1 h) (λ x l. set_stays w k x h l)
stmt_stays (stmt.Load k wide a) w t h =
    having_stays (word_in a w) _ (value_is a w (both_true (is_flow_target k) (is_flow_word a) t).1 h) (λ at l. load_stays k wide at w h)
stmt_stays (stmt.Store wide a b) w t h =
    let p = both_true (is_flow_word a) (is_flow_word b) t in
    having_stays (word_in a w) _ (value_is a w p.0 h) (λ at l. having_stays (word_in b w) _ (value_is b w p.1 h) (λ x k. store_stays wide at x w h))
stmt_stays (stmt.Ext a) w t h = having_stays (word_in a w) _ (value_is a w t h) (λ target l. call_stays target w h)
stmt_stays (stmt.Trap vector a) w t h = having_stays (word_in a w) _ (value_is a w (both_true _ (is_flow_word a) t).1 h) (λ x l. trap_stays (nat_eq x 0) w _ h)

then_stays : (d : Doing) (k : World → Doing) → DidStays d → ((u : World) → IsWorld u → DidStays (k u)) → DidStays (then_do d k)
then_stays (Next u) k h g = g u h
then_stays (Halt o) k h g = tt
then_stays Jam k h g = tt

pub stmts_stay : (ss : List Stmt) (w : World) → IsTrue (are_flow_stmts ss) → IsWorld w → DidStays (stmts_do ss w)
stmts_stay [] w t h = h
stmts_stay (s ∷ ss) w t h =
    let p = both_true (is_flow_stmt s) (are_flow_stmts ss) t in
    then_stays (stmt_does s w) (stmts_do ss) (stmt_stays s w p.0 h) (λ u i. stmts_stay ss u p.1 i)

-- ---- the worlds that blocks lead to

branch_stays : (o : Option Bool) (a b : ℕ) (w : World) → IsWorld w → ArriveStays (branch o a b w)
branch_stays None a b w h = tt
branch_stays (Some true) a b w h = h
branch_stays (Some false) a b w h = h

to_or_stays : (b : Bool) (k : ℕ) (w : World) (a : Arrive) → IsWorld w → ArriveStays a → ArriveStays (cond b (To k w) a)
to_or_stays true k w a h g = h
to_or_stays false k w a h g = g

case_stays : (cases : List Case) (x : ℕ) (w : World) → IsWorld w → ArriveStays (first_case cases x w)
case_stays [] x w h = tt
case_stays (c ∷ cases) x w h = to_or_stays (nat_eq x c.value) c.to w (first_case cases x w) h (case_stays cases x w h)

by_value_stays : (o : Option ℕ) (cases : List Case) (w : World) → IsWorld w → ArriveStays (by_value o cases w)
by_value_stays None cases w h = tt
by_value_stays (Some x) cases w h = case_stays cases x w h

left_stays : (d : Doing) → ArriveStays (left_by d)
left_stays (Next w) = tt
left_stays (Halt o) = tt
left_stays Jam = tt

-- an end leads to no other world than the one that it is come to
pub end_stays : (e : BlockEnd) (w : World) → IsWorld w → ArriveStays (end_leads e w)
end_stays (end.Go a) w h = h
end_stays (end.Branch t a b) w h = branch_stays (holds t w) a b w h
end_stays (end.Switch a cases) w h = by_value_stays (word_in a w) cases w h
end_stays end.Return w h = tt
end_stays (end.Leave a) w h = left_stays (does_ext a w)

after_stays : (d : Doing) (e : BlockEnd) → DidStays d → ArriveStays (arrive d (end_leads e))
after_stays (Next u) e h = end_stays e u h
after_stays (Halt o) e h = tt
after_stays Jam e h = tt

pub block_stays : (b : Block) (w : World) → IsTrue (is_flow_block b) → IsWorld w → ArriveStays (block_leads b w)
block_stays b w t h = after_stays (stmts_do b.stmts w) b.end (stmts_stay b.stmts w (both_true (are_flow_stmts b.stmts) (is_flow_end b.end) t).0 h)

-- ---- the worlds that runs lead to

pub enter_stays : (blocks : List Block) (k : ℕ) (w : World) → IsTrue (are_flow_blocks blocks) → IsWorld w → ArriveStays (enter (slice_get blocks k) w)
enter_stays [] k w t h = tt
enter_stays (b ∷ bs) zero w t h = block_stays b w (both_true (is_flow_block b) (are_flow_blocks bs) t).0 h
enter_stays (b ∷ bs) (suc k) w t h = enter_stays bs k w (both_true (is_flow_block b) (are_flow_blocks bs) t).1 h

onward_stays : (a : Arrive) (k : ℕ → World → Arrive) → ArriveStays a → ((i : ℕ) (u : World) → IsWorld u → ArriveStays (k i u)) → ArriveStays (onward a k)
onward_stays (To i u) k h g = g i u h
onward_stays (End o) k h g = tt
onward_stays Nowhere k h g = tt

pub walk_stays : (blocks : List Block) (k i : ℕ) (w : World) → IsTrue (are_flow_blocks blocks) → IsWorld w → ArriveStays (walk blocks k i w)
walk_stays blocks zero i w t h = h
walk_stays blocks (suc k) i w t h = onward_stays (enter (slice_get blocks i) w) (walk blocks k) (enter_stays blocks i w t h) (λ j u g. walk_stays blocks k j u t g)

-- ---- the world at the start

start_words : (s : Start) → AreWords s.regs → s.fs < 2 ^ 32 → s.gs < 2 ^ 32 → (k : Name) → start_names s k < 2 ^ 32
start_words s r f g (n.Reg k) = regs_small s.regs r k
start_words s r f g (n.Flag k) = flags_small s.flags k
start_words s r f g n.Fs = f
start_words s r f g n.Gs = g
start_words s r f g k = lit< tt

pub start_is : (s : Start) (answers : List Answer) → AreWords s.regs → s.fs < 2 ^ 32 → s.gs < 2 ^ 32 → AreBytes s.mem → AreAnswers answers → IsWorld (start_world s answers)
start_is s answers r f g m a = record {
  words = start_words s r f g;
  no_register = no_reg s.regs;
  no_flag = no_flag_of s.flags;
  bytes = m;
  answers = a;
}

pub worlds_stay : WorldsStay
worlds_stay = record { start_is = start_is; value_is = value_is; stmt_stays = stmt_stays; block_stays = block_stays; walk_stays = walk_stays }
