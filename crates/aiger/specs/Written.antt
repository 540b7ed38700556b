-- The texts of files in the layout that is asked for.
use Rattle.std.specs.Prelude.{ℕ, List, Option, None, Some, codes, nat_eq, if◌then◌else◌}
use Rattle.std.specs.List.{ends_with}
use Rattle.graph.specs.File.{File}
use Rattle.aag.specs.Writing.{written_text as ascii_text}
use Rattle.aig.specs.Writing.{written_text as binary_text}
use Rattle.aiger.specs.declared.layout.Layout.{Layout}
use Rattle.aiger.specs.declared.layout.Layout.TheVariants.{Ascii, Binary}

abbrev pub text_in : Layout → File → List ℕ
text_in Ascii f = ascii_text f
text_in Binary f = binary_text f

-- the layout that the ending of a file's name asks for
abbrev pub layout_of : List ℕ → Option Layout
layout_of name =
    if ends_with nat_eq name (codes ".aag") then Some Ascii
    else (if ends_with nat_eq name (codes ".aig") then Some Binary else None)
