-- The kinds of files: their limits in bytes, and how refusals name them.
use Rattle.std.specs.Prelude.{ℕ, List, codes}
use Rattle.app_words.specs.declared.kind.Kind.{Kind}
use Rattle.app_words.specs.declared.kind.Kind.TheVariants.{Hex, Asm, Layout, Keys, Cert, Script, Text, Vcd}
use Rattle.app_words.specs.declared.words.FileCommand.{FileCommand}
use Rattle.app_words.specs.declared.words.FileCommand.TheVariants.{Step, Listing, Assemble, Compile}

abbrev pub limit_of : Kind → ℕ
limit_of Hex = 16384
limit_of Asm = 262144
limit_of Layout = 65536
limit_of Keys = 4194304
limit_of Cert = 65536
limit_of Script = 65536
limit_of Text = 10000
limit_of Vcd = 4294967294

abbrev pub name_of : Kind → List ℕ
name_of Hex = codes "hex"
name_of Asm = codes "asm"
name_of Layout = codes "layout"
name_of Keys = codes "keys"
name_of Cert = codes "cert"
name_of Script = codes "script"
name_of Text = codes "text"
name_of Vcd = codes "vcd"

-- the kind of the file that a command over one file names
abbrev pub kind_of : FileCommand → Kind
kind_of (Step count) = Hex
kind_of Listing = Hex
kind_of Assemble = Asm
kind_of Compile = Layout
