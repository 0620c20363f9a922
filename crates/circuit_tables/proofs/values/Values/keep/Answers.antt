use Rattle.std.proofs.Common.{List, Bool, [], ◌∷◌, ◌++◌, ◌≡◌, ◌<◌, ◌+◌, length, map, take, get_or, false, cond, ◌∙◌, ap, sym, Vec, Global, arith}
use Rattle.std.proofs.lemmas.List.{map-append, length-map}
use Rattle.circuit_tables.specs.Values.{kept_of}
use Rattle.circuit_tables.proofs.ListLemmas.{kept_more, read_view}
use Rattle.circuit_tables.proofs.values.Values.keep.Goals as goal

pub loop-at-preserved : goal.loop-at-preserved
loop-at-preserved c =
    let items : List (Vec Bool Global) → List (List Bool) = λ xs. map (λ (b : Vec Bool Global). b.items) xs in
    let at = c.loop-at.at in
    let within : at < length c.self.inside.values.items = omega arith in
    let view : items c.self.inside.values.items ≡ c.args.self.now = c.self.view_is in
    let count : length c.args.self.now ≡ length c.self.inside.values.items = sym (ap (λ (v : List (List Bool)). length v) view) ∙ length-map c.self.inside.values.items (λ (b : Vec Bool Global). b.items) in
    let read = c.deref.ensures.value ∙ ap (λ (b : Vec Bool Global). b.items) c.index.ensures ∙ read_view c.self.inside.values.items c.args.self.now at c.index.result.now [] within c.self.view_is in
    let kept = c.in_ok-kept_bits.ensures ∙ ap (λ (bits : List Bool). cond (get_or c.args.wanted.now at false) bits []) read in
    let wanted : at < length c.args.wanted.now = (let flags = c.requires in omega arith) in
    let there : at < length c.args.self.now = omega arith in
    let all : items c.push.new.self.items ≡ kept_of (take (at + 1) c.args.wanted.now) (take (at + 1) c.args.self.now) =
    ap items c.in_ok-push.ensures.items
    ∙ map-append (λ (b : Vec Bool Global). b.items) c.loop-at.values.items (c.in_ok-kept_bits.field-0 ∷ [])
    ∙ ap (λ (front : List (List Bool)). front ++ c.in_ok-kept_bits.field-0.items ∷ []) c.loop-at.invariant
    ∙ ap (λ (last : List Bool). kept_of (take at c.args.wanted.now) (take at c.args.self.now) ++ last ∷ []) kept
    ∙ sym (kept_more c.args.wanted.now c.args.self.now at false [] wanted there) in
    all
