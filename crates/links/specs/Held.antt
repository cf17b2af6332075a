-- What a table held as numbers means.
-- Assumes nothing.
use Rattle.std.specs.Prelude.{ℕ, List, take}
use Rattle.links.specs.declared.held.Links.{Links}

-- its links, in the order of their places
abbrev pub links_of : Links → List ℕ
links_of t = take t.count t.links
