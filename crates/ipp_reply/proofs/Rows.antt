-- What each row of the table says may stand in a message.
use Rattle.std.proofs.Common.{◌≡◌, ℕ, ◌<◌, ◌≤◌, ◌^◌, ◌==◌, List, [], ◌∷◌, ◌++◌, length, refl, arith, lit<, Bool, true, false, ◌&&◌, length-append}
use Rattle.std.specs.Prelude.{Option, Some, None, codes, decimal, map, not, nat_le, nat_lt, if◌then◌else◌}
use Rattle.std.specs.List.{AllByRecursion}
use Rattle.std.specs.Option.{option_to_list}
use Rattle.std.proofs.lemmas.Bool.{and_parts, eqb-false, leb-true, ltb-true, not-true}
use Rattle.std.proofs.lemmas.Fmt.{length-decimal-le}
use Rattle.ipp_wire.specs.Message.{Value, Attribute, IsAttribute, IsPlain, IsPlainAttribute}
use Rattle.queue_types.specs.declared.job.Job.{Job}
use Rattle.queue_types.specs.declared.job.Reason.{Reason}
use Rattle.queue_types.specs.declared.job.Reasons.{Reasons}
use Rattle.queue_types.specs.declared.job.Reason.TheVariants.{NoReason}
use Rattle.queue_types.specs.Job.{reasons}
use Rattle.queue_core.specs.Limits.{IsSoundJob}
use Rattle.ipp_reply.specs.declared.job_reply.JobAttribute.{JobAttribute}
use Rattle.ipp_reply.specs.declared.job_reply.JobAttribute.TheVariants.{JobUri, JobPrinterUri, JobName, JobOriginatingUserName, JobStateReasons, TimeAtProcessing, TimeAtCompleted, JobHoldUntil}
use Rattle.ipp_reply.specs.JobReply.{name_of, values_of, attribute, texts, reason_word, reason_words, moment}

-- a value tag that is no bracket of a collection
abbrev pub is_plain_tag : ℕ → Bool
is_plain_tag tag = nat_le 16 tag && nat_lt tag 256 && not (tag == 0x34) && not (tag == 0x37)

pub record IsFitName (name : List ℕ) : Type 0 where
  pub some : 0 < length name
  pub short : length name < 2 ^ 15

-- values, at least one, that open no collection
pub record ArePlain (vs : List Value) : Type 0 where
  pub some : 0 < length vs
  pub all : AllByRecursion IsPlain vs

pub plain : (tag : ℕ) (bytes : List ℕ) → is_plain_tag tag ≡ true → length bytes < 2 ^ 15 → IsPlain (record { tag = tag; bytes = bytes })
plain tag bytes t short =
    let e = and_parts (nat_le 16 tag && nat_lt tag 256 && not (tag == 0x34)) (not (tag == 0x37)) t in
    let f = and_parts (nat_le 16 tag && nat_lt tag 256) (not (tag == 0x34)) e.0 in
    let g = and_parts (nat_le 16 tag) (nat_lt tag 256) f.0 in
    record {
      value = record { tag_low = leb-true 16 tag g.0; tag_high = ltb-true tag 256 g.1; short = short };
      opens_none = eqb-false tag 0x34 (not-true (tag == 0x34) f.1);
      closes_none = eqb-false tag 0x37 (not-true (tag == 0x37) e.1);
    }

-- one value with such a tag
pub one : (tag : ℕ) (bytes : List ℕ) → is_plain_tag tag ≡ true → length bytes < 2 ^ 15 → ArePlain (record { tag = tag; bytes = bytes } ∷ [])
one tag bytes t short = record { some = lit< tt; all = (plain tag bytes t short, tt) }

reason_short : (r : Reason) → length (reason_word r) < 2 ^ 15
reason_short NoReason = lit< tt
reason_short _ = lit< tt

word_fits : (r : Reason) → IsPlain (record { tag = 0x44; bytes = reason_word r })
word_fits r = plain 0x44 (reason_word r) refl (reason_short r)

words_fit : (first : Reason) (second : Option Reason) → ArePlain (texts 0x44 (reason_word first ∷ map reason_word (option_to_list second)))
words_fit first None = record { some = lit< tt; all = (word_fits first, tt) }
words_fit first (Some r) = record { some = lit< tt; all = (word_fits first, (word_fits r, tt)) }

reasons_fit : (r : Reasons) → ArePlain (texts 0x44 (reason_words r))
reasons_fit r = words_fit r.first r.second

moment_fits : (m : Option ℕ) → ArePlain (moment m)
moment_fits None = one 0x13 [] refl (lit< tt)
moment_fits (Some n) = one 0x21 _ refl (lit< tt)

hold_fits : (hold : Bool) → length (if hold then codes "indefinite" else codes "no-hold") < 2 ^ 15
hold_fits true = lit< tt
hold_fits false = lit< tt

below_ten : (n : ℕ) → n < 2 ^ 31 → n < 10 ^ 10
below_ten n h = omega (arith, h)

values_fit : (uri : List ℕ) (now : ℕ) (j : Job) (a : JobAttribute) → length uri ≤ 255 → IsSoundJob j → ArePlain (values_of uri now j a)
values_fit uri now j JobUri set r = one 0x45 _ refl (omega (arith, length-append (uri ++ codes "/") (decimal j.number), length-append uri (codes "/"), length-decimal-le 10 j.number (lit< tt) (below_ten j.number r.number.1) (omega (arith, r.number.1)), set))
values_fit uri now j JobPrinterUri set r = one 0x45 _ refl (omega (arith, set))
values_fit uri now j JobName set r = one 0x42 _ refl (omega (arith, r.name.fits))
values_fit uri now j JobOriginatingUserName set r = one 0x42 _ refl (omega (arith, r.owner.fits))
values_fit uri now j JobStateReasons set r = reasons_fit (reasons j)
values_fit uri now j TimeAtProcessing set r = moment_fits j.begun
values_fit uri now j TimeAtCompleted set r = moment_fits j.ended
values_fit uri now j JobHoldUntil set r = one 0x44 _ refl (hold_fits j.hold)
values_fit uri now j _ set r = one _ _ refl (lit< tt)

name_fits : (a : JobAttribute) → IsFitName (name_of a)
name_fits JobUri = record { some = lit< tt; short = lit< tt }
name_fits _ = record { some = lit< tt; short = lit< tt }

-- each row's attribute may stand in a message
pub attribute_fits : ((a : Attribute) → IsPlainAttribute a → IsAttribute a) → (uri : List ℕ) (now : ℕ) (j : Job) (a : JobAttribute) → length uri ≤ 255 → IsSoundJob j → IsAttribute (attribute uri now j a)
attribute_fits law uri now j a set r =
    let named = name_fits a in
    let values = values_fit uri now j a set r in
    law (attribute uri now j a) (record { named = named.some; short = named.short; valued = values.some; plain = values.all })
