-- What the front of bytes tells of a frame.
use Rattle.std.proofs.Common.{◌≡◌, ℕ, ◌+◌, ◌-◌, ◌<◌, ◌≤◌, max, List, [], ◌++◌, length, take, drop, get_or, refl, sym, ap, ◌∙◌, None, Some, lit<, arith}
use Rattle.std.proofs.lemmas.List.{length-append, length-take-le, length-drop, get_or-take, get_or-drop, take-append-drop}
use Rattle.std.proofs.Math.Seq.{take-add}
use Rattle.std.proofs.Math.ListN.{get_or-append}
use Rattle.std.proofs.lemmas.Bool.Decides.{nat_tests}
use Rattle.byteorder.specs.Numbers.{big_from-append}
use Rattle.frames.specs.declared.frame.FrameFault.{FrameFault}
use Rattle.frames.specs.declared.frame.Frame.{Frame}
use Rattle.frames.specs.declared.frame.Frame.TheVariants.{Hello, Message, End}
use Rattle.frames.specs.Bytes.{u32_bytes, canonical}
use Rattle.frames.specs.Reading.{stated_length, stated_kind, fault_of_kind, fault_at, frame_length, IsPartial, IsBeforeEnd}
use Rattle.frames.specs.declared.reader.Phase.{Phase}
use Rattle.frames.specs.declared.reader.Phase.TheVariants as phases
use Rattle.frames.specs.Steps.{IsBodyOf, StandsAtFront, IsHeld}
use Rattle.frames.proofs.Spelling.{IsBytes, u32_again}

-- the front of the bytes is sound as far as it is there
pub record IsSound (bytes : List ℕ) : Type 0 where
  pub some : 0 < stated_length bytes
  pub most : stated_length bytes ≤ 65542
  pub kind : 5 ≤ length bytes → fault_of_kind (stated_kind bytes) (stated_length bytes) ≡ None

pub sound : (bytes : List ℕ) → fault_at bytes ≡ None → 4 ≤ length bytes → IsSound bytes
unfolding fault_at
sound bytes none there = record {
  some = grind (arith, nat_tests);
  most = grind (arith, nat_tests);
  kind = λ five. grind (arith, nat_tests);
}

-- the length of the frame, once it is there
pub told_length : (bytes : List ℕ) → 4 ≤ length bytes → frame_length bytes ≡ 4 + stated_length bytes
unfolding frame_length
told_length bytes there = grind (arith, nat_tests)

pub untold_length : (bytes : List ℕ) → length bytes < 4 → frame_length bytes ≡ 4
unfolding frame_length
untold_length bytes short = grind (arith, nat_tests)

-- a frame that is there as far as it tells has told its length
pub told : (bytes : List ℕ) → frame_length bytes ≤ length bytes → 4 ≤ length bytes
unfolding frame_length
told bytes whole = grind (arith, nat_tests)

-- no frame is longer than the longest
pub sound_length : (bytes : List ℕ) → fault_at bytes ≡ None → frame_length bytes ≤ 65546
sound_length bytes none =
    let most = λ (there : 4 ≤ length bytes). (sound bytes none there).most in
    grind (arith, told_length bytes, untold_length bytes, most)

pub some_length : (bytes : List ℕ) → 4 ≤ frame_length bytes
some_length bytes = grind (arith, told_length bytes, untold_length bytes)

pub partial_small : (bytes : List ℕ) → IsPartial bytes → length bytes < 65546
partial_small bytes p = omega (arith, sound_length bytes p.faultless, p.lacking)

pub partial_none : IsPartial []
unfolding fault_at frame_length
partial_none = record { faultless = refl; lacking = lit< tt }

-- more bytes change neither the length nor a fault
pub length_stays : (bytes more : List ℕ) → 4 ≤ length bytes → stated_length (bytes ++ more) ≡ stated_length bytes
unfolding stated_length
length_stays bytes more there = big_from-append 4 bytes more there

pub frame_length_stays : (bytes more : List ℕ) → 4 ≤ length bytes → frame_length (bytes ++ more) ≡ frame_length bytes
frame_length_stays bytes more there =
    omega (arith, told_length bytes there, told_length (bytes ++ more) (omega (arith, length-append bytes more)), length_stays bytes more there)

pub fault_stays : (bytes more : List ℕ) (fault : FrameFault) → fault_at bytes ≡ Some fault → fault_at (bytes ++ more) ≡ Some fault
unfolding fault_at
fault_stays bytes more fault is =
    let longer = length-append bytes more in
    let same = length_stays bytes more in
    let kind = get_or-append bytes more 0 4 in
    grind (arith, nat_tests, longer, same, kind)

-- bytes are held up to the length of their frame
pub held_first : (old new piece : List ℕ) → IsPartial old → new ≡ old ++ take (length new - length old) piece → length new ≤ max 4 (length old) → length new ≤ frame_length new
held_first old new piece p is most =
    let some = some_length new in
    let lacking = p.lacking in
    let stays = λ (there : 4 ≤ length old). frame_length_stays old (take (length new - length old) piece) there in
    let same = ap frame_length is in
    grind (arith, stays, same)

pub held_then : (old new piece : List ℕ) (n : ℕ) → 4 ≤ length old → n ≡ frame_length old → length old ≤ frame_length old → new ≡ old ++ take (length new - length old) piece → length new ≤ max n (length old) → (n ≡ frame_length new) × (length new ≤ frame_length new)
held_then old new piece n there same first is most =
    let stays : n ≡ frame_length new = same ∙ sym (ap frame_length is ∙ frame_length_stays old (take (length new - length old) piece) there) in
    (stays, grind arith)

-- the bytes behind the length of a frame of n bytes
abbrev pub behind : ℕ → List ℕ → List ℕ
behind n bytes = take (n - 4) (drop 4 bytes)

-- what is known of them where the frame is whole
pub record IsWhole (n : ℕ) (bytes : List ℕ) : Type 0 where
  pub there : 4 ≤ length bytes
  pub is : length (behind n bytes) ≡ stated_length bytes
  pub joined : n ≡ 4 + (n - 4)
  pub some : 0 < length (behind n bytes)
  pub most : length (behind n bytes) ≤ 65542
  pub kind : fault_of_kind (get_or (behind n bytes) 0 0) (length (behind n bytes)) ≡ None

pub whole : (n : ℕ) (bytes : List ℕ) → n ≡ frame_length bytes → fault_at bytes ≡ None → n ≤ length bytes → IsWhole n bytes
whole n bytes same none enough =
    let there = told bytes (omega arith) in
    let long = told_length bytes there in
    let is : length (behind n bytes) ≡ stated_length bytes = omega (arith, length-take-le (n - 4) (drop 4 bytes) (omega (arith, length-drop 4 bytes))) in
    let fine = sound bytes none there in
    let first : get_or (behind n bytes) 0 0 ≡ get_or bytes 4 0 = get_or-take (n - 4) (drop 4 bytes) 0 0 (omega arith) ∙ get_or-drop 4 bytes 0 0 in
    record {
      there = there;
      is = is;
      joined = omega arith;
      some = omega arith;
      most = omega arith;
      kind = rw (first, is) (fine.kind (omega arith));
    }

-- a frame that is read from what stands behind the length stands at the front
pub at_front : (frame : Frame) (n : ℕ) (bytes : List ℕ) → IsBytes bytes → n ≡ frame_length bytes → fault_at bytes ≡ None → n ≤ length bytes → IsBodyOf frame (behind n bytes) → StandsAtFront frame bytes
unfolding canonical stated_length
at_front frame n bytes fits same none enough read =
    let w = whole n bytes same none enough in
    let head : u32_bytes (stated_length bytes) ≡ take 4 bytes = u32_again (stated_length bytes) bytes w.there fits refl in
    let front : take n bytes ≡ take 4 bytes ++ behind n bytes = ap (λ m. take m bytes) w.joined ∙ take-add 4 (n - 4) bytes in
    let spelled : bytes ≡ canonical frame ++ drop n bytes = rw (read.is, w.is, head) (sym (take-append-drop n bytes) ∙ ap (λ xs. xs ++ drop n bytes) front) in
    record {
      is = rw (← same) spelled;
      whole = omega arith;
    }

-- the same, of a frame that may stand before End
pub before_end : (frame : Frame) (bytes : List ℕ) → IsBodyOf frame bytes → (frame ≡ End → ⊥) → IsBeforeEnd frame
before_end (Hello h) bytes read other = read.width
before_end (Message gate round payload) bytes read other = (read.width, read.payload)
before_end End bytes read other = absurd (other refl)

-- what a reader holds is less than a frame
pub held_small : (phase : Phase) (held : List ℕ) → IsHeld phase held → length held < 65546
held_small phases.Reading held h = partial_small held h
held_small (phases.Faulty fault) held h = rw h (lit< tt)
held_small phases.Ended held h = rw h (lit< tt)
