use Rattle.std.proofs.Common.{sym, ap, ◌≡◌, ◌∙◌, length, map, string_bytes, vec_items, List, ℕ, Some}
use Rattle.std.proofs.lemmas.List.{length-map}
use Rattle.mot_base.specs.Memory.{held}
use Rattle.mot_base.proofs.Storing.{stored_held, others_held}
use Rattle.mot_base.proofs.mem_files.MemFiles.put_copy.Goals as goal

pub returns-clause-stored : goal.returns-clause-stored
returns-clause-stored c =
    let names = map string_bytes c.self.inside.names.items in
    let contents = map vec_items c.self.inside.contents.items in
    let paired : length names ≡ length contents = simp length-map (sym c.self.inside.names.ok.0 ∙ (c.self.invariant ∙ c.self.inside.contents.ok.0)) in
    ap (λ files. held files c.args.name.now) c.in_ok-put.ensures.ok
    ∙ rw (sym c.self.view_is) (stored_held names contents c.args.name.now c.in_ok-content.content.items paired ∙ ap (λ (content : List ℕ). Some content) c.in_ok-content.ensures.items)

pub returns-clause-others : goal.returns-clause-others
returns-clause-others c = λ other differs.
    let names = map string_bytes c.self.inside.names.items in
    let contents = map vec_items c.self.inside.contents.items in
    let paired : length names ≡ length contents = simp length-map (sym c.self.inside.names.ok.0 ∙ (c.self.invariant ∙ c.self.inside.contents.ok.0)) in
    ap (λ files. held files other) c.in_ok-put.ensures.ok
    ∙ rw (sym c.self.view_is) (others_held names contents c.args.name.now c.in_ok-content.content.items other paired differs)
