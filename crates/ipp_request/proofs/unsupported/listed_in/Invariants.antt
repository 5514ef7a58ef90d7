use Rattle.std.proofs.Common.{◌≡◌, ℕ, List, take, Bor}
use Rattle.std.specs.List.{filter_map}
use Rattle.std.specs.Ordering.{nat_cmp}
use Rattle.std.specs.Cmp.Lexicographic.{slice_cmp}
use Rattle.std.specs.BTreeSet.{contains}
use Rattle.ipp_wire.specs.Viewed.{attributes_of}
use Rattle.ipp_request.specs.Unsupported.{counted, listed}
use Rattle.ipp_request.proofs.Listing.{has_name}
use Rattle.ipp_request.proofs.unsupported.listed_in.Given as goal

abbrev pub invariant-loop-attribute : goal.invariant-loop-attribute
invariant-loop-attribute l =
    (attributes_of l.out.items ≡ filter_map (listed l.source) (counted (attributes_of (take l.attribute-index l.attrs))))
    × ((q : Bor (List ℕ)) → contains (λ a b. slice_cmp nat_cmp a.now b.now) l.seen q ≡ has_name (attributes_of (take l.attribute-index l.attrs)) q.now)
