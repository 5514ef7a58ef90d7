-- What a request target names (RFC 9110, section 7.1; RFC 9112, section 3.2).
use Rattle.std.specs.Prelude.{◌==◌, Bool, true, false, ℕ, List, [], drop, length, Option, None, Some, option_map, codes, if◌then◌else◌, nat_eq}
use Rattle.std.specs.List.{before_first, after_first, position_or_len, starts_with}
use Rattle.std.specs.Str.{is_utf8}
use Rattle.http_head.specs.Fields.{number_in}
use Rattle.http_head.specs.Routes.{route_of}
use Rattle.http_head.specs.declared.target.Target.{Target}
use Rattle.http_head.specs.declared.target.Target.TheVariants.{Ipp, Report, Queue, Document}
use Rattle.http_head.specs.declared.routes.Route.{Route}
use Rattle.http_head.specs.declared.routes.Route.TheVariants.{Print as PrintRoute, Report as ReportRoute, Queue as QueueRoute, Document as DocumentRoute}

-- ---- the path

-- the text from its first slash on
abbrev pub from_slash : List ℕ → List ℕ
from_slash text = drop (position_or_len (λ b. b == 47) text) text

-- an absolute form (section 3.2.2) without its scheme and authority
abbrev pub origin_form : List ℕ → List ℕ
origin_form target = if starts_with nat_eq target (codes "http://") then from_slash (drop 7 target) else target

-- the path, without a query
abbrev pub path_of : List ℕ → List ℕ
path_of target = origin_form (before_first (λ b. b == 63) target)

-- ---- what it names

abbrev pub both : Option ℕ → Option ℕ → Option (ℕ × ℕ)
both None b = None
both (Some a) None = None
both (Some a) (Some b) = Some (a, b)

-- the two numbers round the slash
abbrev pub numbers_in : List ℕ → Option (ℕ × ℕ)
numbers_in text = both (number_in (before_first (λ b. b == 47) text)) (number_in (after_first (λ b. b == 47) text))

-- what stands before the numbers in the path of a document
abbrev pub document_prefix : List ℕ
document_prefix = codes "/device/document/"

abbrev pub target_of : List ℕ → Route → Target
target_of path PrintRoute = Ipp
target_of path ReportRoute = Report
target_of path QueueRoute = Queue
target_of path DocumentRoute = Document (numbers_in (drop (length document_prefix) path))

-- what a path names, where it has a route
abbrev pub routed : List ℕ → Option Target
routed path = if is_utf8 path then option_map (target_of path) (route_of path) else None

-- ---- what each takes

abbrev pub is_posted : Target → Bool
is_posted Ipp = true
is_posted Report = true
is_posted Queue = false
is_posted (Document n) = false

-- the one method that it allows
abbrev pub method_of : Target → List ℕ
method_of t = if is_posted t then codes "POST" else codes "GET"

-- the media type of the content that it takes
abbrev pub media_type_of : Target → List ℕ
media_type_of Ipp = codes "application/ipp"
media_type_of Report = codes "text/plain"
media_type_of Queue = []
media_type_of (Document n) = []
