-- Names, sets of them, and worlds that are alike.
use Rattle.std.proofs.Common.{◌≡◌, ◌⊎◌, inl, inr, ℕ, Bool, true, false, cond, nat_eq, nat_lt, ◌&&◌, ◌||◌, List, refl, ap, ◌∙◌, rules, arith}
use Rattle.std.specs.Prelude.{IsTrue}
use Rattle.dream_words.specs.declared.machine.Name.{Name}
use Rattle.dream_words.specs.declared.machine.Name.TheVariants as n
use Rattle.dream_words.specs.declared.pages.Pages.{Pages}
use Rattle.dream_words.specs.declared.outcome.Answer.{Answer}
use Rattle.dream_words.specs.declared.outcome.Call.{Call}
use Rattle.dream_words.specs.Memory.{Mem}
use Rattle.run_parts.specs.World.{Names, World, with_name, regs_in, answered}
use Rattle.micro_ir.specs.Rule.{is_flow_target}
use Rattle.flow_passes.specs.Uses.{NameSet, same_name, is_register, is_flag}
use Rattle.flow_passes.specs.Alike.{Alike}
use Rattle.flow_passes.specs.Laws.{Within, SameNames}

pub or_left : (a b : Bool) → IsTrue a → IsTrue (a || b)
or_left true b h = refl
or_left false b h = absurd (let z : ⊥ = cc in z)

pub or_right : (a b : Bool) → IsTrue b → IsTrue (a || b)
or_right true b h = refl
or_right false b h = h

pub either_of : (a b : Bool) → IsTrue (a || b) → IsTrue a ⊎ IsTrue b
either_of true b h = inl refl
either_of false b h = inr h

eq_self : (k : ℕ) → IsTrue (nat_eq k k)
eq_self k = search (rules, arith)

-- a name is itself
pub same_self : (m : Name) → IsTrue (same_name m m)
same_self (n.Reg k) = eq_self k
same_self (n.Flag k) = eq_self k
same_self n.Fs = refl
same_self n.Gs = refl
same_self (n.T k) = eq_self k
same_self (n.B k) = eq_self k
same_self (n.S k) = eq_self k

chosen : (k j x y z i : ℕ) → IsTrue (nat_eq k j) → IsTrue (nat_lt k i && true) → cond (nat_eq j k && nat_lt k i) x y ≡ cond (nat_eq j k && nat_lt k i) x z
chosen k j x y z i s t = search (rules, arith, s, t)

taken : (k j x y z : ℕ) → IsTrue (nat_eq k j) → cond (nat_eq j k) x y ≡ cond (nat_eq j k) x z
taken k j x y z s = search (rules, arith, s)

-- After a name was set to the same word in both, names stand for the same words where they did, and where they are that name.
pub set_same : (v u : Names) (m : Name) (x : ℕ) (k : Name) → IsTrue (is_flow_target m) → IsTrue (same_name m k) ⊎ (u k ≡ v k) → with_name u m x k ≡ with_name v m x k
set_same v u (n.Reg k) x (n.Reg j) t (inl s) = chosen k j x (u (n.Reg j)) (v (n.Reg j)) 8 s t
set_same v u (n.Reg k) x (n.Reg j) t (inr e) = ap (cond (nat_eq j k && nat_lt k 8) x) e
set_same v u (n.Flag k) x (n.Flag j) t (inl s) = chosen k j x (u (n.Flag j)) (v (n.Flag j)) 5 s t
set_same v u (n.Flag k) x (n.Flag j) t (inr e) = ap (cond (nat_eq j k && nat_lt k 5) x) e
set_same v u n.Fs x n.Fs t h = refl
set_same v u n.Gs x n.Gs t h = refl
set_same v u (n.T k) x (n.T j) t (inl s) = taken k j x (u (n.T j)) (v (n.T j)) s
set_same v u (n.T k) x (n.T j) t (inr e) = ap (cond (nat_eq j k) x) e
set_same v u (n.B k) x (n.B j) t (inl s) = taken k j x (u (n.B j)) (v (n.B j)) s
set_same v u (n.B k) x (n.B j) t (inr e) = ap (cond (nat_eq j k) x) e
set_same v u (n.S k) x (n.S j) t (inl s) = taken k j x (u (n.S j)) (v (n.S j)) s
set_same v u (n.S k) x (n.S j) t (inr e) = ap (cond (nat_eq j k) x) e
set_same v u m x k t (inr e) = e
set_same v u m x k t (inl s) = absurd (let z : ⊥ = cc in z)

-- the registers are the same where each of them is
pub same_regs : (v u : Names) → SameNames is_register v u → regs_in u ≡ regs_in v
same_regs v u s =
    let a = s (n.Reg 0) refl in
    let b = s (n.Reg 1) refl in
    let c = s (n.Reg 2) refl in
    let d = s (n.Reg 3) refl in
    let e = s (n.Reg 4) refl in
    let f = s (n.Reg 5) refl in
    let g = s (n.Reg 6) refl in
    let h = s (n.Reg 7) refl in
    cc

-- ---- worlds

world_by : Names → Mem → Pages → List Answer → List Call → World
world_by v m p left calls = record { names = v; mem = m; pages = p; left = left; calls = calls }

-- a world that is alike differs in its names alone
pub but_names : (seen : NameSet) (w u : World) → Alike seen w u → u ≡ record w { names = u.names }
unfolding world_by
but_names seen w u h =
    ap (λ m. world_by u.names m u.pages u.left u.calls) h.mem
    ∙ ap (λ p. world_by u.names w.mem p u.left u.calls) h.pages
    ∙ ap (λ l. world_by u.names w.mem w.pages l u.calls) h.left
    ∙ ap (λ c. world_by u.names w.mem w.pages w.left c) h.calls

-- what is alike in names is alike
pub alike_by : (seen : NameSet) (w : World) (v : Names) → SameNames seen w.names v → Alike seen w (record w { names = v })
alike_by seen w v s = record { names = s; mem = refl; pages = refl; left = refl; calls = refl }

pub alike_self : (seen : NameSet) (w : World) → Alike seen w w
alike_self seen w = record { names = λ n t. refl; mem = refl; pages = refl; left = refl; calls = refl }

-- what is seen less is alike too
pub alike_within : (less more : NameSet) (w u : World) → Within less more → Alike more w u → Alike less w u
alike_within less more w u i h = record { names = λ n t. h.names n (i n t); mem = h.mem; pages = h.pages; left = h.left; calls = h.calls }

pub alike_trans : (seen : NameSet) (w u x : World) → Alike seen w u → Alike seen u x → Alike seen w x
alike_trans seen w u x h g = record {
  names = λ n t. g.names n t ∙ h.names n t;
  mem = g.mem ∙ h.mem;
  pages = g.pages ∙ h.pages;
  left = g.left ∙ h.left;
  calls = g.calls ∙ h.calls;
}

-- a register or flag after an answer is the answer's
pub answered_same : (a : Answer) (v u : Names) (k : Name) → IsTrue (is_register k || is_flag k) ⊎ (u k ≡ v k) → answered a u k ≡ answered a v k
answered_same a v u (n.Reg k) h = refl
answered_same a v u (n.Flag k) h = refl
answered_same a v u k (inr e) = e
answered_same a v u k (inl s) = absurd (let z : ⊥ = cc in z)
