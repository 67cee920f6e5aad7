-- The kinds of messages and their type octets.
use Rattle.std.specs.Prelude.{ℕ, cond, Some, None, Option, ◌==◌}
use Rattle.message.specs.declared.kinds.Kind.{Kind}
use Rattle.message.specs.declared.kinds.Kind.TheVariants.{Single, ReleaseComplete, GroupReset, GroupResetAck, Grouped, Release, Call}
use Rattle.message.specs.declared.kinds.Single.TheVariants.{Rsc, Blo, Ubl, Bla, Uba}
use Rattle.message.specs.declared.kinds.Grouped.TheVariants.{Cgb, Cgu, Cgba, Cgua}
use Rattle.message.specs.declared.kinds.CallKind.TheVariants.{Iam, Acm, Con, Anm, Cpg}

abbrev pub type_of : Kind → ℕ
type_of (Single Rsc) = 0x12
type_of (Single Blo) = 0x13
type_of (Single Ubl) = 0x14
type_of (Single Bla) = 0x15
type_of (Single Uba) = 0x16
type_of ReleaseComplete = 0x10
type_of GroupReset = 0x17
type_of GroupResetAck = 0x29
type_of (Grouped Cgb) = 0x18
type_of (Grouped Cgu) = 0x19
type_of (Grouped Cgba) = 0x1a
type_of (Grouped Cgua) = 0x1b
type_of Release = 0x0c
type_of (Call Iam) = 0x01
type_of (Call Acm) = 0x06
type_of (Call Con) = 0x07
type_of (Call Anm) = 0x09
type_of (Call Cpg) = 0x2c

-- the kind of a type octet, where it is listed
abbrev pub kind_of : ℕ → Option Kind
kind_of t =
    cond (t == 0x12) (Some (Single Rsc))
    (cond (t == 0x13) (Some (Single Blo))
    (cond (t == 0x14) (Some (Single Ubl))
    (cond (t == 0x15) (Some (Single Bla))
    (cond (t == 0x16) (Some (Single Uba))
    (cond (t == 0x01) (Some (Call Iam))
    (cond (t == 0x06) (Some (Call Acm))
    (cond (t == 0x07) (Some (Call Con))
    (cond (t == 0x09) (Some (Call Anm))
    (cond (t == 0x2c) (Some (Call Cpg))
    (cond (t == 0x10) (Some ReleaseComplete)
    (cond (t == 0x0c) (Some Release)
    (cond (t == 0x17) (Some GroupReset)
    (cond (t == 0x29) (Some GroupResetAck)
    (cond (t == 0x18) (Some (Grouped Cgb))
    (cond (t == 0x19) (Some (Grouped Cgu))
    (cond (t == 0x1a) (Some (Grouped Cgba))
    (cond (t == 0x1b) (Some (Grouped Cgua))
    None)))))))))))))))))
