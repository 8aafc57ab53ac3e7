-- The limits of the opening terms (document 01, "Opening terms").
use Rattle.std.specs.Prelude.{ℕ, Bool, cond, ◌&&◌, leb}
use Rattle.calendar.specs.Calendar.{opens}
use Rattle.terms.specs.declared.Terms.{Terms}

-- low ≤ n ≤ high
abbrev pub within : ℕ → ℕ → ℕ → Bool
within low high n = leb low n && leb n high

-- "`price`: 1 to 99,999 hundredths of a cent per kWh."
abbrev pub max_price : ℕ
max_price = 99999

-- "`connect`: connection balance, 0 to 7,500."
abbrev pub max_connect : ℕ
max_connect = 7500

-- "`cutoff`: disconnection balance, 0 to 1,000 and at most `connect`"
abbrev pub max_cutoff : ℕ
max_cutoff = 1000

-- "`share`: 0 to 50, per cent of a payment that goes to a plan"
abbrev pub max_share : ℕ
max_share = 50

-- "`open`: a Gregorian date, years 2000 to 2099"; the others by the limits above
unfoldable pub valid_terms : Terms → Bool
valid_terms t =
    opens t.opened
    && (within 1 max_price t.price
    && (leb t.connect max_connect
    && ((leb t.cutoff max_cutoff && leb t.cutoff t.connect)
    && leb t.share max_share)))

-- terms of zeros, which are outside their limits
abbrev pub zero_terms : Terms
zero_terms = record { opened = record { year = 0; month = 0; day = 0 }; price = 0; connect = 0; cutoff = 0; share = 0 }

-- 1: "terms outside their limits"; 0: within them
unfoldable pub terms_code : Terms → ℕ
terms_code t = cond (valid_terms t) 0 1
