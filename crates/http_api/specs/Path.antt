-- The path of a request's target.
--     path_of target    the target up to its first `?`; where that begins with `http://`, from the next `/` on, or `/` where there is none
use Rattle.std.specs.Prelude.{ℕ, List, Option, Some, None, codes, drop, take, position, if◌then◌else◌, nat_eq}
use Rattle.std.specs.List.{starts_with}

abbrev pub up_to : Option ℕ → List ℕ → List ℕ
up_to None text = text
up_to (Some at) text = take at text

abbrev pub before_query : List ℕ → List ℕ
before_query target = up_to (position (nat_eq 63) target) target

abbrev pub from : Option ℕ → List ℕ → List ℕ
from None text = codes "/"
from (Some at) text = drop at text

abbrev pub after_authority : List ℕ → List ℕ
after_authority rest = from (position (nat_eq 47) rest) rest

abbrev pub path_of : List ℕ → List ℕ
path_of target = if starts_with nat_eq (before_query target) (codes "http://") then after_authority (drop 7 (before_query target)) else before_query target
