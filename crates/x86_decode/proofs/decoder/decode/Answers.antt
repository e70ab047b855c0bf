use Rattle.std.proofs.Common.{arith}
use Rattle.x86_decode.proofs.Decoding.{AreBytes-from, front, within, none_begins, is_begun, not_begun}
use Rattle.x86_decode.specs.declared.fields.Stop.TheVariants.{Cut, Bad}
use Rattle.x86_decode.proofs.decoder.decode.Goals as goal

pub overflow_sub-result : goal.overflow_sub-result
overflow_sub-result c = within c.args.bytes.now c.in-Ok.inst c.in-Ok.rest.now (AreBytes-from c.args.bytes.now (λ i. omega (arith, c.type_inv.bytes i))) c.in-Ok.ensures

pub overflow_cast-result : goal.overflow_cast-result
overflow_cast-result c = let f = front c.args.bytes.now c.in-Ok.inst c.in-Ok.rest.now (AreBytes-from c.args.bytes.now (λ i. omega (arith, c.type_inv.bytes i))) c.in-Ok.ensures in omega (arith, f.small)

pub returns-in-Ok : goal.returns-in-Ok
returns-in-Ok c = let f = front c.args.bytes.now c.in-Ok.inst c.in-Ok.rest.now (AreBytes-from c.args.bytes.now (λ i. omega (arith, c.type_inv.bytes i))) c.in-Ok.ensures in (f.within, f.spells)

pub returns-in-Err-Cut : goal.returns-in-Err-Cut
returns-in-Err-Cut c =
    let e = rw c.in-Err-Cut.field-0-is at c.in-Err-Cut.ensures in
    (none_begins c.args.bytes.now Cut e, is_begun c.args.bytes.now (AreBytes-from c.args.bytes.now (λ i. omega (arith, c.type_inv.bytes i))) e)

pub returns-in-Err-Bad : goal.returns-in-Err-Bad
returns-in-Err-Bad c =
    let e = rw c.in-Err-Bad.field-0-is at c.in-Err-Bad.ensures in
    (none_begins c.args.bytes.now Bad e, not_begun c.args.bytes.now e)
