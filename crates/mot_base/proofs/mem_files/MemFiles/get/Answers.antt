use Rattle.std.proofs.Common.{sym, vec_items, string_bytes, arith}
use Rattle.std.proofs.lemmas.Option.{gets}
use Rattle.std.proofs.lemmas.Grind.{common_steps}
use Rattle.std.specs.Str.{bytes_eq}
use Rattle.mot_base.proofs.Shelves.{absent, present}
use Rattle.mot_base.proofs.mem_files.MemFiles.get.Goals as goal

pub returns-in_err-place : goal.returns-in_err-place
returns-in_err-place c =
    let nowhere = rw c.deref.ensures.value at c.in_err-place.ensures in
    let none = absent (bytes_eq c.args.name.now) string_bytes vec_items c.self.inside.names.items c.self.inside.contents.items (sym nowhere) in
    rw (sym c.self.view_is, c.from_residual.ensures) (sym none)

pub returns : goal.returns
returns c =
    let here = rw c.deref.ensures.value at c.in_ok-place.ensures in
    let some = present (bytes_eq c.args.name.now) string_bytes vec_items c.self.inside.names.items c.self.inside.contents.items c.in_ok-place.place c.in_ok-content.content.now (sym here) (grind (arith, common_steps, gets)) in
    rw (sym c.self.view_is, c.as_slice.ensures.value) (sym some)
