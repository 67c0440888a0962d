-- What begin calls asked for, as a desk keeps it.
use Rattle.std.specs.Prelude.{ℕ, List, map}
use Rattle.std.specs.String.{string_bytes}
use Rattle.desk.specs.declared.outside.Asked.{Asked}
use Rattle.desk.specs.declared.requests.Request.{Request}

abbrev pub requests_of : List Request → List (Asked × List ℕ)
requests_of rs = map (λ r. (r.what, string_bytes r.name)) rs
