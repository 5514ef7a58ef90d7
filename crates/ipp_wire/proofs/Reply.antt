-- The bare reply is a message, and its bytes.
use Rattle.std.proofs.Common.{◌≡◌, ℕ, ◌^◌, ◌<◌, ◌≤◌, Bool, true, false, if◌then◌else◌, List, [], ◌++◌, length, take, drop, refl, length-drop, arith}
use Rattle.std.proofs.lemmas.List.{take_at, drop_at, append-nil}
use Rattle.std.proofs.Math.ListN.{drop_of_length-le}
use Rattle.ipp_wire.specs.declared.view.Head.{Head}
use Rattle.ipp_wire.specs.Message.{IsHead, IsAttribute, IsMessage}
use Rattle.ipp_wire.specs.Bare.{bare, bare_head, is_known_version, charset, language}
use Rattle.ipp_wire.proofs.Plain.{plain_attribute}
use borrow.Rule.Slice.PartMut.{put_mid, post_of}

-- eight bytes, and 64 after them
pub both_parts : (head groups out : List ℕ) → length head ≡ 8 → length out ≡ 72 → put_mid 8 64 (head ++ post_of 0 8 out) groups ≡ head ++ groups
both_parts head groups out lh lo =
    let front : take 8 (head ++ drop 8 out) ≡ head = take_at head (drop 8 out) 8 lh in
    let middle : drop 8 (head ++ drop 8 out) ≡ drop 8 out = drop_at head (drop 8 out) 8 lh in
    let none : drop 64 (drop 8 out) ≡ [] = (let short : length (drop 8 out) ≤ 64 = omega (arith, length-drop 8 out, lo) in drop_of_length-le (drop 8 out) short) in
    rw (front, middle, none, append-nil groups) refl

chosen : (b : Bool) (x y m : ℕ) → x < m → y < m → (if b then x else y) < m
chosen true x y m h k = h
chosen false x y m h k = k

bare_head_is : (h : Head) (code : ℕ) → IsHead h → code < 2 ^ 16 → IsHead (bare_head h code)
bare_head_is h code ih fits = record {
  major = chosen (is_known_version h) h.major 1 (2 ^ 8) ih.major (omega arith);
  minor = chosen (is_known_version h) h.minor 1 (2 ^ 8) ih.minor (omega arith);
  code = fits;
  request_id = ih.request_id;
}

charset_is : IsAttribute charset
charset_is = plain_attribute charset (record {
  named = omega arith;
  short = omega arith;
  valued = omega arith;
  plain = (record { value = record { tag_low = omega arith; tag_high = omega arith; short = omega arith }; opens_none = omega arith; closes_none = omega arith }, tt);
})

language_is : IsAttribute language
language_is = plain_attribute language (record {
  named = omega arith;
  short = omega arith;
  valued = omega arith;
  plain = (record { value = record { tag_low = omega arith; tag_high = omega arith; short = omega arith }; opens_none = omega arith; closes_none = omega arith }, tt);
})

pub bare_is : (h : Head) (code : ℕ) → IsHead h → code < 2 ^ 16 → IsMessage (bare h code)
bare_is h code ih fits = record {
  head = bare_head_is h code ih fits;
  groups = (record { tag = (omega arith, omega arith, omega arith); attributes = (charset_is, (language_is, tt)) }, tt);
}
