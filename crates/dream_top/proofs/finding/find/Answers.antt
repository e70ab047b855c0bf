use Rattle.std.proofs.Common.{◌≡◌, Ok, Err, sym, subst}
use Rattle.elf_image.specs.Image.{image_of, ImageFails}
use Rattle.dream_top.specs.CommandLine.{func_said, target_said}
use Rattle.dream_top.specs.Answers.{reading_of, range_in, Finds, Refuses}
use Rattle.dream_top.specs.Loading.{image_status, find_status}
use Rattle.dream_top.proofs.Held.{loads_such, refuses_image, refuses_func, such_error}
use Rattle.dream_top.proofs.finding.find.Goals as goal

pub returns-clause-ok : goal.returns-clause-ok
returns-clause-ok g c =
    let files = g.F.Files in
    let i = reading_of (files.held c.args.files.now) (files.faults c.args.files.now) (files.faults c.load.new.files) (files.got c.args.files.now) (files.got c.load.new.files) in
    let bytes = c.in_ok-bytes.bytes.items in
    let m = c.in_ok-image.image in
    let r = c.in_ok-range.range in
    let func = func_said c.args.target.func in
    let image : image_of bytes ≡ Ok m = subst (λ b. image_of b ≡ Ok m) c.deref.ensures.value c.in_ok-image.ensures in
    let range : range_in bytes func ≡ Ok r = subst (λ b. range_in b func ≡ Ok r) c.deref-2.ensures.value (sym c.in_ok-range.ensures) in
    loads_such i c.args.target.path.now bytes (λ all. Finds m all func r) c.in_ok-bytes.ensures.ok record { image = image; range = range }

pub returns-in_err-image-clause-err : goal.returns-in_err-image-clause-err
returns-in_err-image-clause-err g c =
    let files = g.F.Files in
    let i = reading_of (files.held c.args.files.now) (files.faults c.args.files.now) (files.faults c.load.new.files) (files.got c.args.files.now) (files.got c.load.new.files) in
    let f = target_said c.args.target in
    let fault = c.in_err-image.field-0.0 in
    let bytes = c.in_ok-bytes.bytes.items in
    let fails : ImageFails (image_of bytes) fault = subst (λ b. ImageFails (image_of b) fault) c.deref.ensures.value c.in_err-image.ensures in
    such_error c.from_residual-in_err-image.result (image_status fault) (λ s. Refuses s i f) c.from_residual-in_err-image.ensures.1 (refuses_image i f bytes fault c.in_ok-bytes.ensures.ok fails)

pub returns-in_err-range-clause-err : goal.returns-in_err-range-clause-err
returns-in_err-range-clause-err g c =
    let files = g.F.Files in
    let i = reading_of (files.held c.args.files.now) (files.faults c.args.files.now) (files.faults c.load.new.files) (files.got c.args.files.now) (files.got c.load.new.files) in
    let f = target_said c.args.target in
    let why = c.in_err-range.field-0.0 in
    let bytes = c.in_ok-bytes.bytes.items in
    let m = c.in_ok-image.image in
    let image : image_of bytes ≡ Ok m = subst (λ b. image_of b ≡ Ok m) c.deref.ensures.value c.in_ok-image.ensures in
    let none : range_in bytes f.func ≡ Err why = subst (λ b. range_in b f.func ≡ Err why) c.deref-2.ensures.value (sym c.in_err-range.ensures) in
    such_error c.from_residual-in_err-range.result (find_status why) (λ s. Refuses s i f) c.from_residual-in_err-range.ensures.1 (refuses_func i f bytes m why c.in_ok-bytes.ensures.ok image none)
