-- The interface's version. A call, a struct or a length that changes raises it, here and in include/zolbine.h.
-- Assumes nothing.
use Rattle.std.specs.Prelude.{ℕ}

abbrev pub version : ℕ
version = 6
