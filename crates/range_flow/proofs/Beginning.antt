-- The instruction that the machine finds at an address is the one that begins there.
use Rattle.std.proofs.Common.{◌≡◌, ℕ, List, Option, Some, None, refl}
use Rattle.elf_image.specs.declared.image.Segment.{Segment}
use Rattle.elf_image.specs.declared.range.Range.{Range}
use Rattle.x86_inst.specs.declared.Inst.{Inst}
use Rattle.machine.specs.Code.{BeginsAt, Decodes}
use Rattle.flow_graph.proofs.OnePlaces.{one_at}

decoded_by : (m : List Segment) (r : Range) (decoded : ℕ → Option (Inst × ℕ)) (a : ℕ) (i : Inst) (n : ℕ) (o : Option (Inst × ℕ))
    → Decodes m r decoded → decoded a ≡ o → BeginsAt m r a i n → o ≡ Some (i, n)
decoded_by m r decoded a i n None d e b = absurd (d.none a i n e b)
decoded_by m r decoded a i n (Some (j, k)) d e b =
    let p = one_at m r a j i k n (d.found a j k e) b in
    (λ t. Some (p.1 t, p.0 t))

pub decoded_is : (m : List Segment) (r : Range) (decoded : ℕ → Option (Inst × ℕ)) (a : ℕ) (i : Inst) (n : ℕ) → Decodes m r decoded → BeginsAt m r a i n
    → decoded a ≡ Some (i, n)
decoded_is m r decoded a i n d b = decoded_by m r decoded a i n (decoded a) d refl b
