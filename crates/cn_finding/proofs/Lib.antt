pub mod OneFinding
