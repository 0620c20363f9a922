-- What is written of an outcome where not all of it is.
use Rattle.std.proofs.Common.{ℕ, ◌≡◌, ◌≢◌, ◌<◌, [], length, take, drop, Option, ap, arith}
use Rattle.std.proofs.lemmas.List.{length-drop, take-append-drop}
use Rattle.mot_base.specs.Sink.{with_more}
use Rattle.text_lines.specs.Text.{Text}
use Rattle.command_ends.specs.Ending.{IsCut}
use Rattle.command_ends.specs.Outcome.{Outcome}

rest_stays : (text : Text) (n : ℕ) → n < length text → drop n text ≢ []
rest_stays text n h = λ e. let none = simp length-drop at (ap length e) in omega arith

pub cut_at : (before after : Option Text) (end : Outcome) (text : Text) (n : ℕ) → end.text ≡ text → n < length text →
    after ≡ with_more before (take n text) → IsCut before after end
cut_at before after end text n same h e = record {
  part = take n text;
  rest = drop n text;
  some = rest_stays text n h;
  whole = rw same (take-append-drop n text);
  appended = e;
}
