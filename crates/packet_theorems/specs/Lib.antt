pub mod ViewBuild
