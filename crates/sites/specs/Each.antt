-- What the iterator over a set's sites has still to give.
use Rattle.std.specs.Prelude.{List, ℕ}
use Rattle.sites.specs.declared.walk.SitesLeft.{SitesLeft}
use Rattle.sites.specs.Sites.{sites_of}

abbrev pub left_of : SitesLeft → List ℕ
left_of s = sites_of s.0
