use Rattle.std.proofs.Common.{string_bytes, vec_items, sym, refl, ◌∙◌, ◌≡◌, None}
use Rattle.std.proofs.lemmas.List.{map-set}
use Rattle.std.specs.Prelude.{position}
use Rattle.std.specs.Str.{bytes_eq}
use Rattle.mot_base.proofs.Shelves.{position-map}
use Rattle.mot_base.proofs.mem_files.MemFiles.put.Goals as goal

pub returns-in-Some-clause-ok : goal.returns-in-Some-clause-ok
returns-in-Some-clause-ok c =
    let here = position-map (bytes_eq c.args.name.now) string_bytes c.self.inside.names.items in
    let there = rw (c.deref.ensures.value, c.in-Some.is) at c.place_of.ensures in
    let set = map-set vec_items c.self.inside.contents.items c.in-Some.place c.args.content in
    rw (sym c.self.view_is, here, sym there, set) refl

pub returns-in-None-clause-ok : goal.returns-in-None-clause-ok
returns-in-None-clause-ok c =
    let here = position-map (bytes_eq c.args.name.now) string_bytes c.self.inside.names.items in
    let there = rw (c.deref.ensures.value, c.in-None.is) at c.place_of.ensures in
    let nowhere : position (bytes_eq c.args.name.now) c.args.self.now.names ≡ None = rw (sym c.self.view_is) (here ∙ sym there) in
    rw nowhere c.add.ensures.ok
